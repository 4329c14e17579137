-- What stands before the items of a list under a size: the extension bit, the count, or nothing before the first
-- length.
use Rattle.std.specs.Prelude.{◌+◌, ◌-◌, ℕ, zero, suc, nat_lt, Bool, true, false, List, [], ◌∷◌, Option, Some, None}
use Rattle.asn_values.specs.Shape.{SizeRange}
use Rattle.asn_values.specs.Fits.{max_len}
use Rattle.asn_rules.specs.Chunks.{Chunk}
use Rattle.asn_rules.specs.Languages.{Map, Nothing}
use Rattle.asn_rules.specs.Forks.{Fork}
use Rattle.asn_walk.specs.Ahead.{Ahead, items, lengths}
use Rattle.asn_per.specs.Kinds.{of_either, CountWithin}

-- the counts outside the root, as intervals
abbrev pub other_counts : ℕ → Option ℕ → List (ℕ × Option ℕ)
other_counts low None = (0, Some (low - 1)) ∷ []
other_counts zero (Some high) = (high + 1, Some max_len) ∷ []
other_counts (suc low) (Some high) = (0, Some low) ∷ (high + 1, Some max_len) ∷ []

-- in front of a list of a count between the bounds: that count, or nothing, where a length is ahead
abbrev pub StartForm : Bool → ℕ → ℕ → Ahead → List Chunk → Type 0
StartForm true low high = Map items (CountWithin low high)
StartForm false low high = Nothing (lengths ((low, Some high) ∷ []) 0 false)

-- in front of a list of the root: its count where the upper bound is below 65,536 ("length determinant")
abbrev pub RootStart : ℕ → Option ℕ → Ahead → List Chunk → Type 0
RootStart low (Some high) = StartForm (nat_lt high 65536) low high
RootStart low None = StartForm false low max_len

-- after an extension mark, 0 and the form of the root, or 1 and a length is ahead
abbrev pub Start : SizeRange → Ahead → List Chunk → Type 0
Start s = elim s.extensible [
  | false ↦ RootStart s.low s.high
  | true ↦ Map of_either (Fork (RootStart s.low s.high) (Nothing (lengths (other_counts s.low s.high) 0 false)))
]
