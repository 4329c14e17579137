use Rattle.std.proofs.lemmas.Result.{err_from_is_err_and}
use Rattle.asn_bits.specs.Numbers.{packed}
use Rattle.asn_rules.proofs.Languages.Leads.{stops_by}
use Rattle.asn_oer.proofs.Read.TruthReading.{truth_leads}
use Rattle.asn_oer.proofs.read_leaves.read_boolean.Goals as goal

pub returns-in_err-octet-clause-stop : goal.returns-in_err-octet-clause-stop
returns-in_err-octet-clause-stop c =
    let p = err_from_is_err_and c.from_residual.result c.from_residual.ensures.1 in
    let t = c.truth_octets.ensures in
    rw (p.1, p.2) (stops_by _ (truth_leads c.args.excluded c.truth_octets.result t.there t.back (packed c.args.units.now)).stops c.in_err-octet.ensures.stop)

pub returns-clause-done : goal.returns-clause-done
returns-clause-done c =
    let t = c.truth_octets.ensures in
    (truth_leads c.args.excluded c.truth_octets.result t.there t.back (packed c.args.units.now)).done c.in_ok-octet.octet (packed c.read_octets_among.new.units) c.in_ok-octet.ensures.done
