use Rattle.std.proofs.lemmas.Result.{err_from_is_err_and}
use Rattle.asn_values.specs.Fits.{max_len}
use Rattle.asn_bits.specs.Numbers.{packed}
use Rattle.asn_bits.specs.Sets.{Between}
use Rattle.asn_rules.specs.Fields.{OctetLength}
use Rattle.asn_rules.proofs.Languages.Leads.{stops_by}
use Rattle.asn_oer.proofs.InPieces.Starts.{front_leads}
use Rattle.asn_oer.proofs.single_items.start_any.Goals as goal

pub returns-in_err-count-clause-stop : goal.returns-in_err-count-clause-stop
returns-in_err-count-clause-stop c =
    let p = err_from_is_err_and c.from_residual.result c.from_residual.ensures.1 in
    rw (p.1, p.2) (stops_by _ (front_leads (OctetLength (Between 0 max_len)) (packed c.args.units.now)).stops c.in_err-count.ensures.stop)

pub returns-clause-done : goal.returns-clause-done
returns-clause-done c =
    (front_leads (OctetLength (Between 0 max_len)) (packed c.args.units.now)).done c.in_ok-count.count (packed c.read_length.new.units) c.in_ok-count.ensures.done
