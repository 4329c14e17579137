use Rattle.std.proofs.Common.{ℤ, ◌↔◌, ◌⊎◌, length}
use Rattle.asn_published_types.specs.Numbers.{InRange, InSet}
use Rattle.asn_published_types.proofs.ranges.Ranges.join_meet.Given as goal

abbrev pub invariant-others : goal.invariant-others
invariant-others l = (z : ℤ) →
    (InSet l.self.ranges.items z ⊎ (InRange l.range z × InSet l.left z))
    ↔ (InSet l.initial.self.ranges.items z ⊎ (InRange l.range z × InSet l.others z))

abbrev pub decreases-others : goal.decreases-others
decreases-others l = length l.left
