use Rattle.std.proofs.Common.{◌++◌, ◌∙◌, ap}
use Rattle.asn_published_types.proofs.Sets.{join_set}
use Rattle.asn_published_types.proofs.ranges.Ranges.join.Goals as goal

pub returns : goal.returns
returns c =
    join_set _ _ _
    (c.in_ok-extend_from_slice.ensures.items ∙ ap (λ s. c.args.self.now.ranges.items ++ s) c.as_slice.ensures.value)
