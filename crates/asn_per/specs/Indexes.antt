-- Indexes of the items of an ENUMERATED and of the alternatives of a CHOICE, as they are read and written.
use Rattle.std.specs.Prelude.{◌<◌, ◌⊎◌, ℕ, Bool, false, List, ◌∷◌, ◌++◌, length, Option, Some, None, ⊤}
use mathlib.Core.Logic.{inl, inr}
use Rattle.std.specs.Option.{option_map}
use Rattle.asn_values.specs.Shape.{Label, MoreLabels, closed_labels, marked_labels}
use Rattle.asn_bits.specs.Numbers.{width}
use Rattle.asn_rules.specs.Chunks.{Chunk}
use Rattle.asn_rules.specs.Components.{number_at, extension_bit}
use Rattle.asn_rules.specs.Forks.{Fork}
use Rattle.asn_rules.specs.Languages.{Map}
use Rattle.asn_per.specs.Kinds.{Below, SmallBelow}
use Rattle.asn_per.specs.Per.{rank, constrained, small}
-- the root of an ENUMERATED of the profile
pub use Rattle.asn_plan.specs.Ranks.{AreRootItems}

-- ---- indexes of the root or of the additions

-- an index of the root in bits; after an extension mark 0 and such an index, or 1 and that of an addition
abbrev pub IndexesOf : ℕ → Option ℕ → ℕ ⊎ ℕ → List Chunk → Type 0
IndexesOf root None = Map inl (Below (width root) root)
IndexesOf root (Some more) = Fork (Below (width root) root) (SmallBelow more)

-- its bits, where it is said whether there is a mark
abbrev pub index_bits : ℕ → Bool → ℕ ⊎ ℕ → List ℕ
index_bits root marked (inl n) = extension_bit marked false ++ constrained root n
index_bits root marked (inr n) = 1 ∷ small n

-- ---- ENUMERATED

-- an item that may be left out is one of the root, and there is no mark
abbrev pub IsItemWithin : List Label → MoreLabels → Option ℕ → Type 0
IsItemWithin root more None = ⊤
IsItemWithin root closed_labels (Some p) = p < length root
IsItemWithin root (marked_labels ls) (Some p) = ⊥

-- its index
abbrev pub index_of : List Label → Option ℕ → Option ℕ
index_of root p = option_map (λ q. rank root (number_at root q)) p
