use Rattle.std.proofs.Common.{◌≡◌, ◌+◌, ◌-◌, ◌*◌, ◌++◌, ℕ, List}
use Rattle.std.specs.Prelude.{vec_len, vec_capacity}
use Rattle.asn_values.specs.View.{alphabet_of}
use Rattle.asn_bits.specs.Numbers.{bits}
use Rattle.asn_per.specs.Kinds.{Character}
use Rattle.asn_per.specs.Reading.{Appends, code_width}
use Rattle.asn_per.proofs.string_items.append_word.Given as goal

abbrev pub invariant-loop-i : goal.invariant-loop-i
invariant-loop-i l =
    ((rest : List ℕ) → Appends (Character (alphabet_of l.kind)) l.i l.fn.into.items l.into.items (bits (code_width (alphabet_of l.kind) * l.count) l.word ++ rest) (bits (code_width (alphabet_of l.kind) * (l.count - l.i)) l.word ++ rest))
    × (vec_len l.into ≡ vec_len l.fn.into + l.i) × (vec_capacity l.into ≡ vec_capacity l.fn.into)
