use Rattle.std.proofs.Common.{ℤ, ◌↔◌, ◌⊎◌, length}
use Rattle.asn_published_types.specs.Numbers.{InSet}
use Rattle.asn_published_types.proofs.ranges.Ranges.meet.Given as goal

abbrev pub invariant-own : goal.invariant-own
invariant-own l = (z : ℤ) →
    (InSet l.both.ranges.items z ⊎ (InSet l.left z × InSet l.other.ranges.items z))
    ↔ (InSet l.self.ranges.items z × InSet l.other.ranges.items z)

abbrev pub decreases-own : goal.decreases-own
decreases-own l = length l.left
