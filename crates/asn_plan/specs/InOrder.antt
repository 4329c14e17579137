-- The items of an ENUMERATED with numbers in the order in which they are written. By rules that spell an item by its index,
-- each is spelt as an item by its own number.
use Rattle.std.specs.Prelude.{◌≡◌, ◌-ℤ◌, ℕ, suc, pos, Bool, true, false, List, [], ◌∷◌}
use Rattle.asn_values.specs.Datum.{Datum, item}
use Rattle.asn_values.specs.Fits.{Fits}
use Rattle.asn_values.specs.Profile.{InProfile}
use Rattle.asn_values.specs.Shape.{Shape, Label, MoreLabels, enumerated}
use Rattle.asn_rules.specs.Chunks.{Chunk}

-- these items, the first with the number that lies n above the least of 32 bits
abbrev pub numbered : ℕ → List Label → List Label
numbered n [] = []
numbered n (l ∷ ls) = record { name = l.name; number = pos n -ℤ pos 2147483648 } ∷ numbered (suc n) ls

-- the same, if it is wanted
abbrev pub numbered_if : Bool → List Label → List Label
numbered_if wanted ls = elim wanted [ true ↦ numbered 0 ls | false ↦ ls ]

-- each item of the first type is spelt as one of the second
abbrev pub AreSpeltAs : (Shape → Datum → List Chunk) → Shape → Shape → Type 0
AreSpeltAs code t u = (p : ℕ) → Fits t (item p) → (q : ℕ) × Fits u (item q) × (code t (item p) ≡ code u (item q))

-- by these spellings an item is spelt by its index
abbrev pub SpellsIndexes : (Shape → Datum → List Chunk) → Type 0
SpellsIndexes code = (root : List Label) (more : MoreLabels) → InProfile (enumerated root more)
    → AreSpeltAs code (enumerated root more) (enumerated (numbered 0 root) more)
    × AreSpeltAs code (enumerated (numbered 0 root) more) (enumerated root more)
