use Rattle.std.proofs.Common.{◌≤◌, ◌+◌, ◌-◌, length}
use Rattle.std.specs.Prelude.{vec_len, vec_capacity}
use Rattle.asn_per.specs.SingleItems.{BitHeld, TakesItems}
use Rattle.asn_per.proofs.item_runs.take_bits.Given as goal

abbrev pub invariant-loop-left : goal.invariant-loop-left
invariant-loop-left l =
    TakesItems BitHeld (l.count - l.left) l.fn.into.items l.into.items l.initial.cursor l.cursor
    × (l.left ≤ l.count) × (l.left ≤ length l.cursor) × (vec_len l.into + l.left ≤ vec_capacity l.into)

abbrev pub decreases-loop-left : goal.decreases-loop-left
decreases-loop-left l = l.left
