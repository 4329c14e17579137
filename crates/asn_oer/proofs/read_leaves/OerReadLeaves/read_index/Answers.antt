use Rattle.std.proofs.Common.{arith}
use Rattle.std.proofs.lemmas.Result.{err_from_is_err_and}
use Rattle.asn_bits.specs.Numbers.{packed}
use Rattle.asn_rules.specs.Languages.{Spells}
use Rattle.asn_rules.specs.Stops.{Stops}
use Rattle.asn_rules.proofs.Languages.Leads.{stops_by}
use Rattle.asn_oer.specs.Constructed.{Tags}
use Rattle.asn_oer.specs.Oer.{oer_fields}
use Rattle.asn_oer.proofs.Read.IndexReading.{told_root, told_added, index_leads, alternatives_are}
use Rattle.asn_oer.specs.Rules.{oer_ruling}
use Rattle.asn_oer.specs.Walk.{oer_coding, alternatives_of}
use Rattle.asn_oer.proofs.read_leaves.OerReadLeaves.read_index.Goals as goal

pub returns-in_err-tag-clause-stop : goal.returns-in_err-tag-clause-stop
unfolding oer_coding oer_ruling
returns-in_err-tag-clause-stop c =
    let p = err_from_is_err_and c.from_residual.result c.from_residual.ensures.1 in
    let us = packed c.args.units.now in
    let stop : Stops oer_fields (Tags (alternatives_of c.args.root c.args.additions)) us c.in_err-tag.field-0.0 = rw (c.unwrap_or.ensures, (alternatives_are c.args.root c.args.additions c.requires.few).0) at c.in_err-tag.ensures.stop in
    rw (p.1, p.2) (stops_by _ (index_leads c.args.root c.args.additions c.requires.few us).stops stop)

pub returns-then-tag-root-clause-done : goal.returns-then-tag-root-clause-done
unfolding oer_coding oer_ruling
returns-then-tag-root-clause-done c =
    let us = packed c.args.units.now in
    let vs = packed c.read_tag.new.units in
    let t = c.in_ok-tag.tag in
    let read : Spells oer_fields (Tags (alternatives_of c.args.root c.args.additions)) t us vs = rw (c.unwrap_or.ensures, (alternatives_are c.args.root c.args.additions c.requires.few).0) at c.in_ok-tag.ensures.done in
    rw (← told_root c.args.root t c.if-tag-root.true) ((index_leads c.args.root c.args.additions c.requires.few us).done t vs read)

pub returns-else-tag-root-clause-done : goal.returns-else-tag-root-clause-done
unfolding oer_coding oer_ruling
returns-else-tag-root-clause-done c =
    let us = packed c.args.units.now in
    let vs = packed c.read_tag.new.units in
    let t = c.in_ok-tag.tag in
    let read : Spells oer_fields (Tags (alternatives_of c.args.root c.args.additions)) t us vs = rw (c.unwrap_or.ensures, (alternatives_are c.args.root c.args.additions c.requires.few).0) at c.in_ok-tag.ensures.done in
    rw (← told_added c.args.root t (omega (arith, c.if-tag-root.false))) ((index_leads c.args.root c.args.additions c.requires.few us).done t vs read)
