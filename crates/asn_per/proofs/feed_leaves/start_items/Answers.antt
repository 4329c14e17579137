-- No item stands before the first length.
use Rattle.std.proofs.lemmas.Result.{err_from_is_err_and}
use Rattle.asn_values.specs.View.{size_range_of}
use Rattle.asn_rules.proofs.Languages.Leads.{leads_map, stops_by}
use Rattle.asn_per.specs.ListsAhead.{Start}
use Rattle.asn_per.specs.Per.{per_fields}
use Rattle.asn_walk_feed.specs.Octets.{no_first}
use Rattle.asn_per.specs.FragmentsAhead.{ahead_of}
use Rattle.asn_per.proofs.feed_leaves.start_items.Goals as goal

pub returns-in_err-fragments-clause-stop : goal.returns-in_err-fragments-clause-stop
returns-in_err-fragments-clause-stop c =
    let p = err_from_is_err_and c.from_residual.result c.from_residual.ensures.1 in
    rw (p.1, p.2) (stops_by _ (leads_map per_fields no_first (Start (size_range_of c.args.size.now)) c.args.units.now).stops c.in_err-fragments.ensures.stop)

pub returns-clause-done : goal.returns-clause-done
returns-clause-done c = (leads_map per_fields no_first (Start (size_range_of c.args.size.now)) c.args.units.now).done (ahead_of c.in_ok-fragments.fragments) c.start.new.bits c.in_ok-fragments.ensures.done
