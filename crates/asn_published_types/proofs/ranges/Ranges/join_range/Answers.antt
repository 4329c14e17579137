use Rattle.asn_published_types.proofs.Sets.{push_set}
use Rattle.asn_published_types.proofs.ranges.Ranges.join_range.Goals as goal

pub returns-in_ok-push : goal.returns-in_ok-push
returns-in_ok-push c = push_set _ _ _ c.in_ok-push.ensures.items
