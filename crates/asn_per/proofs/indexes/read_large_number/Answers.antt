use Rattle.std.proofs.lemmas.Result.{err_from_is_err_and}
use Rattle.asn_rules.proofs.Languages.Leads.{stops_by}
use Rattle.asn_per.specs.Per.{per_fields}
use Rattle.asn_per.proofs.Read.SmallReading.{length_stops, octet_leads}
use Rattle.asn_per.proofs.indexes.read_large_number.Goals as goal

pub returns-in_err-read_number-clause-stop : goal.returns-in_err-read_number-clause-stop
returns-in_err-read_number-clause-stop c =
    let p = err_from_is_err_and c.from_residual.result c.from_residual.ensures.1 in
    rw (p.1, p.2) (stops_by _ (length_stops c.args.count c.requires.long c.requires.few c.args.bits.now) (c.in_err-read_number.ensures.stop per_fields))

pub returns-in_err-read_number-2-clause-stop : goal.returns-in_err-read_number-2-clause-stop
returns-in_err-read_number-2-clause-stop c =
    let lead = octet_leads c.args.count c.requires.long c.requires.few c.in_ok-read_number.field-0 c.args.bits.now c.read_number.new.bits c.in_ok-read_number.ensures.member (c.in_ok-read_number.ensures.done per_fields) in
    let p = err_from_is_err_and c.from_residual-in_err-read_number-2.result c.from_residual-in_err-read_number-2.ensures.1 in
    rw (p.1, p.2) (stops_by _ lead.stops (c.in_err-read_number-2.ensures.stop per_fields))

pub returns-clause-done : goal.returns-clause-done
returns-clause-done c =
    let lead = octet_leads c.args.count c.requires.long c.requires.few c.in_ok-read_number.field-0 c.args.bits.now c.read_number.new.bits c.in_ok-read_number.ensures.member (c.in_ok-read_number.ensures.done per_fields) in
    lead.done c.in_ok-read_number-2.field-0 c.read_number-2.new.bits (c.in_ok-read_number-2.ensures.done per_fields)
