use Rattle.std.proofs.lemmas.Result.{err_from_is_err_and}
use Rattle.asn_bits.specs.Numbers.{packed}
use Rattle.asn_rules.specs.Languages.{Spells}
use Rattle.asn_rules.specs.Stops.{Stops}
use Rattle.asn_rules.proofs.Languages.Leads.{stops_by}
use Rattle.asn_rules.specs.OctetReading.{FilledFields}
use Rattle.asn_oer.specs.Oer.{oer_fields}
use Rattle.asn_oer.proofs.Read.PreambleReading.{mark_fits, preamble_leads}
use Rattle.asn_oer.specs.Rules.{oer_ruling}
use Rattle.asn_oer.specs.Walk.{oer_coding, mark_of}
use Rattle.asn_oer.proofs.read_leaves.OerReadLeaves.read_preamble.Goals as goal

pub read_filled-requires-clause-mark : goal.read_filled-requires-clause-mark
unfolding oer_coding oer_ruling
read_filled-requires-clause-mark c = rw c.marks-marks.ensures (mark_fits c.args.additions).0

pub read_filled-requires-clause-marks_hold : goal.read_filled-requires-clause-marks_hold
unfolding oer_coding oer_ruling
read_filled-requires-clause-marks_hold c = rw c.marks-marks.ensures (mark_fits c.args.additions).1

pub returns-in_err-mark-clause-stop : goal.returns-in_err-mark-clause-stop
unfolding oer_coding oer_ruling
returns-in_err-mark-clause-stop c =
    let p = err_from_is_err_and c.from_residual.result c.from_residual.ensures.1 in
    let us = packed c.args.units.now in
    let stop : Stops oer_fields (FilledFields (mark_of c.args.additions).0 (mark_of c.args.additions).1 c.args.count 0) us c.in_err-mark.field-0.0 = rw c.marks-marks.ensures at c.in_err-mark.ensures.stop in
    rw (p.1, p.2) (stops_by _ (preamble_leads c.args.count c.args.additions us).stops stop)

pub returns-clause-done : goal.returns-clause-done
unfolding oer_coding oer_ruling
returns-clause-done c =
    let us = packed c.args.units.now in
    let vs = packed c.read_filled.new.units in
    let read : Spells oer_fields (FilledFields (mark_of c.args.additions).0 (mark_of c.args.additions).1 c.args.count 0) (c.in_ok-mark.mark, c.in_ok-mark.bitmap) us vs = rw c.marks-marks.ensures at c.in_ok-mark.ensures.done in
    (preamble_leads c.args.count c.args.additions us).done (c.in_ok-mark.mark, c.in_ok-mark.bitmap) vs read
