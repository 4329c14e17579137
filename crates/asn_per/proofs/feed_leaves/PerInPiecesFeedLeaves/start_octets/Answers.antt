-- One octet at least.
use Rattle.std.proofs.Common.{IfOk, IfErr, subst}
use Rattle.asn_values.specs.Shape.{SizeRange}
use Rattle.asn_rules.specs.Languages.{Spells}
use Rattle.asn_rules.specs.Stops.{Stops}
use Rattle.asn_per.specs.ListsAhead.{Start}
use Rattle.asn_per.specs.Per.{per_fields}
use Rattle.asn_walk_feed.specs.Octets.{NoFirst, start_seen}
use Rattle.asn_per.specs.FragmentsAhead.{ahead_of}
use Rattle.asn_per.specs.Rules.{per_ruling}
use Rattle.asn_per.specs.Walk.{per_coding}
use Rattle.asn_per.specs.SingleItems.{per_field_coding}
use Rattle.asn_per.proofs.feed_leaves.PerInPiecesFeedLeaves.start_octets.Goals as goal

pub returns-clause-done : goal.returns-clause-done
unfolding per_coding per_ruling per_field_coding
returns-clause-done c =
    subst (λ (s : SizeRange). IfOk c.start_items.result (λ f. Spells per_fields (NoFirst (Start s)) (start_seen ahead_of f) c.args.units.now c.start_items.new.units)) c.at_least.ensures c.start_items.ensures.done

pub returns-clause-stop : goal.returns-clause-stop
unfolding per_coding per_ruling per_field_coding
returns-clause-stop c =
    subst (λ (s : SizeRange). IfErr c.start_items.result (λ why. Stops per_fields (NoFirst (Start s)) c.args.units.now why)) c.at_least.ensures c.start_items.ensures.stop
