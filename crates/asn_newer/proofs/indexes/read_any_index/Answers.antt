use Rattle.std.proofs.Common.{◌-◌, Some, refl}
use Rattle.asn_values.specs.Profile.{most_alternatives}
use Rattle.asn_walk.specs.Coding.{IndexOf}
use Rattle.asn_walk.proofs.Parts.{fields_part_of}
use Rattle.asn_newer.proofs.Walk.Halts.{halts_none}
use Rattle.asn_newer.proofs.Walk.ItemsRead.{none_of_refused}
use Rattle.asn_newer.proofs.indexes.read_any_index.Goals as goal

pub returns-then-is_index_past-clause-stop : goal.returns-then-is_index_past-clause-stop
returns-then-is_index_past-clause-stop g c =
    let l = IndexOf g.R.ReadLeaves.rules c.args.root (Some (most_alternatives - c.args.root)) in
    let us = g.R.ReadLeaves.rules.to_units c.args.units.now in
    halts_none g.R.ReadLeaves.rules l us _ (none_of_refused g.R.ReadLeaves.rules l us us _ (fields_part_of g.R.ReadLeaves.rules c.keep_laws.ensures) c.in-Err-Refused.ensures.stop c.in-Err-Refused.field-0-is refl)

pub returns-else-is_index_past-clause-stop : goal.returns-else-is_index_past-clause-stop
returns-else-is_index_past-clause-stop g c =
    let l = IndexOf g.R.ReadLeaves.rules c.args.root (Some (most_alternatives - c.args.root)) in
    let us = g.R.ReadLeaves.rules.to_units c.args.units.now in
    halts_none g.R.ReadLeaves.rules l us _ (none_of_refused g.R.ReadLeaves.rules l us us _ (fields_part_of g.R.ReadLeaves.rules c.keep_laws.ensures) c.in-Err-Refused.ensures.stop c.in-Err-Refused.field-0-is refl)
