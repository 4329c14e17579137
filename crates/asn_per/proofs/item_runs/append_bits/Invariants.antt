use Rattle.std.proofs.Common.{◌≡◌, ◌+◌, ◌-◌, ◌++◌, ℕ, List}
use Rattle.std.specs.Prelude.{vec_len, vec_capacity}
use Rattle.asn_bits.specs.Numbers.{bits}
use Rattle.asn_per.specs.SingleItems.{BitHeld, TakesItems}
use Rattle.asn_per.proofs.item_runs.append_bits.Given as goal

abbrev pub invariant-loop-i : goal.invariant-loop-i
invariant-loop-i l =
    ((rest : List ℕ) → TakesItems BitHeld l.i l.fn.into.items l.into.items (bits l.count l.word ++ rest) (bits (l.count - l.i) l.word ++ rest))
    × (vec_len l.into ≡ vec_len l.fn.into + l.i) × (vec_capacity l.into ≡ vec_capacity l.fn.into)
