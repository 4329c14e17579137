use Rattle.std.proofs.lemmas.Result.{err_from_is_err_and}
use Rattle.asn_bits.specs.Numbers.{packed}
use Rattle.asn_rules.proofs.Languages.Leads.{stops_by}
use Rattle.asn_oer.proofs.Read.TagReading.{long_stops, long_ends, last_leads}
use Rattle.asn_oer.proofs.tags.read_long_tag.Goals as goal

pub returns-in_err-octet-clause-stop : goal.returns-in_err-octet-clause-stop
returns-in_err-octet-clause-stop c =
    let p = err_from_is_err_and c.from_residual.result c.from_residual.ensures.1 in
    let o = c.first_octets.ensures in
    rw (p.1, p.2) (stops_by _ (long_stops c.args.count c.requires.few c.first_octets.result o.there o.back (packed c.args.units.now)) c.in_err-octet.ensures.stop)

pub returns-then-octet-lt128-clause-done : goal.returns-then-octet-lt128-clause-done
returns-then-octet-lt128-clause-done c =
    let o = c.first_octets.ensures in
    long_ends c.args.count c.requires.few c.first_octets.result o.there o.back c.if-octet-lt128.true c.in_ok-octet.ensures.done

pub returns-in_err-last-clause-stop : goal.returns-in_err-last-clause-stop
returns-in_err-last-clause-stop c =
    let p = err_from_is_err_and c.from_residual-in_err-last.result c.from_residual-in_err-last.ensures.1 in
    let o = c.first_octets.ensures in
    let one = o.there c.in_ok-octet.octet c.in_ok-octet.ensures.member in
    let lead = last_leads c.args.count c.requires.few c.first_octets.result o.there o.back c.if-octet-lt128.false one c.min-most.ensures c.in_ok-octet.ensures.done in
    rw (p.1, p.2) (stops_by _ lead.stops (rw c.numbers.ensures at c.in_err-last.ensures.stop))

pub returns-clause-done : goal.returns-clause-done
returns-clause-done c =
    let o = c.first_octets.ensures in
    let one = o.there c.in_ok-octet.octet c.in_ok-octet.ensures.member in
    let lead = last_leads c.args.count c.requires.few c.first_octets.result o.there o.back c.if-octet-lt128.false one c.min-most.ensures c.in_ok-octet.ensures.done in
    lead.done c.in_ok-last.last (packed c.read_octets.new.units) (rw c.numbers.ensures at c.in_ok-last.ensures.done)
