use Rattle.std.proofs.Common.{◌+◌, ◌-◌, ◌^◌, ◌%◌}
use Rattle.std.proofs.lemmas.Result.{err_from_is_err_and}
use Rattle.asn_rules.specs.Languages.{Spells}
use Rattle.asn_rules.specs.NumberSets.{NumberIn}
use Rattle.asn_rules.specs.Stops.{Stops}
use Rattle.asn_rules.proofs.Languages.Leads.{stops_by}
use Rattle.asn_rules.specs.OctetReading.{from_to}
use Rattle.asn_rules.proofs.Plain.FilledReading.{stops_at_mark, stops_at_number, zeros_lead}
use Rattle.asn_rules.specs.Fields.{octet_fields}
use Rattle.asn_rules.proofs.octet_reader.read_bits.Goals as goal

pub returns-in_err-mark-clause-stop : goal.returns-in_err-mark-clause-stop
returns-in_err-mark-clause-stop c =
    let p = err_from_is_err_and c.from_residual.result c.from_residual.ensures.1 in
    let a = c.args in
    let stop : Stops octet_fields (NumberIn a.marks (from_to 0 a.most)) a.units.now c.in_err-mark.field-0.0 = c.in_err-mark.ensures.stop octet_fields in
    rw (p.1, p.2) (stops_by _ (stops_at_mark a.marks a.most a.count a.low c.requires.marks_hold c.requires.some a.units.now) stop)

pub returns-in_err-number-clause-stop : goal.returns-in_err-number-clause-stop
returns-in_err-number-clause-stop c =
    let p = err_from_is_err_and c.from_residual-in_err-number.result c.from_residual-in_err-number.ensures.1 in
    let a = c.args in
    let mark : Spells octet_fields (NumberIn a.marks (from_to 0 a.most)) c.in_ok-mark.mark a.units.now c.read_up_to.new.bits = c.in_ok-mark.ensures.done octet_fields in
    let stop : Stops octet_fields (NumberIn a.count (from_to a.low (2 ^ a.count - 1))) c.read_up_to.new.bits c.in_err-number.field-0.0 = c.in_err-number.ensures.stop octet_fields in
    rw (p.1, p.2) (stops_by _ (stops_at_number a.marks a.most a.count a.low c.requires.marks_hold c.requires.some c.in_ok-mark.mark a.units.now c.read_up_to.new.bits mark) stop)

pub returns-in_err-read_up_to-clause-stop : goal.returns-in_err-read_up_to-clause-stop
returns-in_err-read_up_to-clause-stop c =
    let p = err_from_is_err_and c.from_residual-in_err-read_up_to.result c.from_residual-in_err-read_up_to.ensures.1 in
    let a = c.args in
    let mark : Spells octet_fields (NumberIn a.marks (from_to 0 a.most)) c.in_ok-mark.mark a.units.now c.read_up_to.new.bits = c.in_ok-mark.ensures.done octet_fields in
    let number : Spells octet_fields (NumberIn a.count (from_to a.low (2 ^ a.count - 1))) c.in_ok-number.number c.read_up_to.new.bits c.read_from.new.units = c.in_ok-number.ensures.done octet_fields in
    let stop : Stops octet_fields (NumberIn ((8 - (a.marks + a.count) % 8) % 8) (from_to 0 0)) c.read_from.new.units c.in_err-read_up_to.field-0.0 = c.in_err-read_up_to.ensures.stop octet_fields in
    rw (p.1, p.2) (stops_by _ (zeros_lead a.marks a.most a.count a.low c.requires.marks_hold c.requires.some c.in_ok-mark.mark c.in_ok-number.number a.units.now c.read_up_to.new.bits c.read_from.new.units mark number).stops stop)

pub returns-clause-done : goal.returns-clause-done
returns-clause-done c =
    let a = c.args in
    let mark : Spells octet_fields (NumberIn a.marks (from_to 0 a.most)) c.in_ok-mark.mark a.units.now c.read_up_to.new.bits = c.in_ok-mark.ensures.done octet_fields in
    let number : Spells octet_fields (NumberIn a.count (from_to a.low (2 ^ a.count - 1))) c.in_ok-number.number c.read_up_to.new.bits c.read_from.new.units = c.in_ok-number.ensures.done octet_fields in
    let zeros : Spells octet_fields (NumberIn ((8 - (a.marks + a.count) % 8) % 8) (from_to 0 0)) c.in_ok-read_up_to.field-0 c.read_from.new.units c.read_up_to-2.new.bits = c.in_ok-read_up_to.ensures.done octet_fields in
    (zeros_lead a.marks a.most a.count a.low c.requires.marks_hold c.requires.some c.in_ok-mark.mark c.in_ok-number.number a.units.now c.read_up_to.new.bits c.read_from.new.units mark number).done c.in_ok-read_up_to.field-0 c.read_up_to-2.new.bits zeros
