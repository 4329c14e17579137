-- Fields that lie one after the other, and the values that they say.
use Rattle.std.specs.Prelude.{◌≡◌, ◌≤◌, ◌++◌, ℕ, List, [], ◌∷◌, map, drop, length, Option, Some, None}
use Rattle.asn_values.specs.declared.value.Value.{Value}
use Rattle.asn_values.specs.Datum.{Datum}
use Rattle.asn_values.specs.View.{datum_of}
use Rattle.asn_fields.specs.declared.field.MessageField.{MessageField}

-- the fields are the units from the first number to the other: each begins where the one before ended
abbrev pub Tiles : ℕ → ℕ → List MessageField → Type 0
Tiles from to [] = from ≡ to
Tiles from to (f ∷ fs) = (f.start ≡ from) × (from ≤ f.end) × Tiles f.end to fs

-- the value that a field says, if it says one
abbrev pub said : Option Value → List Datum
said None = []
said (Some v) = datum_of v ∷ []

-- the values that the fields say, in order
abbrev pub contents : List MessageField → List Datum
contents [] = []
contents (f ∷ fs) = said f.value ++ contents fs

-- of the values from one on, the next one or none was taken
pub record TakesNext (vs : List Value) (used : ℕ) (taken : Option Value) (next : ℕ) : Type 0 where
  pub inside : next ≤ length vs
  pub same : map datum_of (drop used vs) ≡ said taken ++ map datum_of (drop next vs)

-- fields without units, which say these values, were added at the end
pub record Lays (old : List MessageField) (at : ℕ) (ds : List Datum) (new : List MessageField) : Type 0 where
  pub tiles : (from : ℕ) → Tiles from at old → Tiles from at new
  pub values : contents new ≡ contents old ++ ds
