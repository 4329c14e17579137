use Rattle.std.proofs.lemmas.Result.{err_from_is_err_and}
use Rattle.asn_values.specs.View.{size_range_of}
use Rattle.asn_bits.specs.Numbers.{packed}
use Rattle.asn_rules.proofs.Languages.Leads.{stops_by}
use Rattle.asn_walk.specs.Sizes.{Count}
use Rattle.asn_oer.proofs.InPieces.Starts.{front_leads}
use Rattle.asn_oer.proofs.single_items.start_items.Goals as goal

pub returns-in_err-count-clause-stop : goal.returns-in_err-count-clause-stop
returns-in_err-count-clause-stop c =
    let p = err_from_is_err_and c.from_residual.result c.from_residual.ensures.1 in
    rw (p.1, p.2) (stops_by _ (front_leads (Count (size_range_of c.args.size.now)) (packed c.args.units.now)).stops c.in_err-count.ensures.stop)

pub returns-clause-done : goal.returns-clause-done
returns-clause-done c =
    (front_leads (Count (size_range_of c.args.size.now)) (packed c.args.units.now)).done c.in_ok-count.count (packed c.read_count.new.units) c.in_ok-count.ensures.done
