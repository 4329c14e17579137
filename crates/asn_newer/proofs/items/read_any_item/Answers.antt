use Rattle.std.proofs.Common.{◌++◌, None, ap}
use Rattle.std.proofs.lemmas.Result.{IfErr-weaker}
use Rattle.asn_values.specs.View.{labels_seen, shape_of}
use Rattle.asn_rules.specs.Listed.{Spelt}
use Rattle.asn_walk.proofs.Parts.{fields_part_of}
use Rattle.asn_newer.specs.Walking.{loose_by}
use Rattle.asn_newer.proofs.Walk.Halts.{halts_on}
use Rattle.asn_newer.proofs.Walk.ItemsRead.{no_item, none_of_short, none_of_refused, before_end}
use Rattle.asn_newer.proofs.items.read_any_item.Goals as goal

pub returns-in-Err-Refused-clause-stop : goal.returns-in-Err-Refused-clause-stop
returns-in-Err-Refused-clause-stop g c =
    let l = loose_by g.R.ReadLeaves.rules g.R.OtherVersions.loose in
    let us = g.R.ReadLeaves.rules.to_units c.args.units.now in
    let none = none_of_refused g.R.ReadLeaves.rules (Spelt g.R.ReadLeaves.rules.code None (shape_of c.args.ty.now)) us _ _ (fields_part_of g.R.ReadLeaves.rules c.keep_laws.ensures) c.in-Err-Refused.ensures.stop c.in-Err-Refused.field-0-is (ap g.R.ReadLeaves.rules.to_units c.copied-ahead.ensures) in
    IfErr-weaker c.read_unknown.result _ _ (λ why s. halts_on why (λ after. no_item l (labels_seen c.args.root.now) (labels_seen c.args.additions.now) (shape_of c.args.ty.now) c.requires.same (us ++ after) (none after)) s) c.read_unknown.ensures.stop

pub returns-in-Err-clause-stop : goal.returns-in-Err-clause-stop
returns-in-Err-clause-stop g c =
    let l = loose_by g.R.ReadLeaves.rules g.R.OtherVersions.loose in
    let us = g.R.ReadLeaves.rules.to_units c.args.units.now in
    let none = none_of_short g.R.ReadLeaves.rules (Spelt g.R.ReadLeaves.rules.code None (shape_of c.args.ty.now)) us _ _ c.in-Err-Short.ensures.stop c.in-Err-Short.field-0-is (ap g.R.ReadLeaves.rules.to_units c.copied-ahead.ensures) in
    rw c.halt_before_end.ensures (before_end c.in-Err.halt (no_item l (labels_seen c.args.root.now) (labels_seen c.args.additions.now) (shape_of c.args.ty.now) c.requires.same us none) c.in-Err.ensures.stop)
