-- The components of a SEQUENCE as a language: what their spellings are once the presence bitmap is known.
use Rattle.std.specs.Prelude.{◌≡◌, ℕ, zero, suc, Bool, true, false, List, [], ◌∷◌, ◌++◌, Option, Some, None, ⊤}
use Rattle.asn_values.specs.Datum.{Datum}
use Rattle.asn_values.specs.Shape.{Shape, Demand, must, optional, default, Fields, no_fields, field}
use Rattle.asn_values.specs.Fits.{Fits}
use Rattle.asn_rules.specs.Chunks.{Chunk}
use Rattle.asn_rules.specs.Components.{is_default, if_spelled}
use Rattle.asn_rules.specs.Spellings.{SpelledBy}
use Rattle.asn_rules.specs.Languages.{Then, Map, Nothing, prepended}

-- the value is not the one that is left out, where one is
abbrev pub IsOther : Option Datum → Datum → Type 0
IsOther None v = ⊤
IsOther (Some d) v = is_default d v ≡ false

-- the values of the type but the one that is left out, spelt by the code
abbrev pub Spelt : (Shape → Datum → List Chunk) → Option Datum → Shape → Datum → List Chunk → Type 0
Spelt code left_out t = SpelledBy (λ v. Fits t v × IsOther left_out v) (code t)

-- a component that is spelt, and those after it
abbrev pub Before : (Datum → List Chunk → Type 0) → (List (Option Datum) → List Chunk → Type 0) → List (Option Datum)
    → List Chunk → Type 0
Before L M = Map prepended (Then (Map Some L) (λ _. M))

-- the entries of the components under these presence bits: a component that must be there is spelt; one that
-- is OPTIONAL is spelt or absent; one with a DEFAULT is spelt where it has another value, and else has that one
abbrev pub Listed : (Shape → Datum → List Chunk) → Fields → List ℕ → List (Option Datum) → List Chunk → Type 0
Listed code no_fields bits = Nothing []
Listed code (field name must t fs) bits = Before (Spelt code None t) (Listed code fs bits)
Listed code (field name optional t fs) (suc b ∷ bits) = Before (Spelt code None t) (Listed code fs bits)
Listed code (field name optional t fs) (zero ∷ bits) = Map (λ es. None ∷ es) (Listed code fs bits)
Listed code (field name (default d) t fs) (suc b ∷ bits) = Before (Spelt code (Some d) t) (Listed code fs bits)
Listed code (field name (default d) t fs) (zero ∷ bits) = Map (λ es. Some d ∷ es) (Listed code fs bits)
Listed code (field name demand t fs) [] = λ es cs. ⊥

-- the spellings of the components that are spelt, in order
abbrev pub each_of : (Shape → Datum → List Chunk) → Fields → List (Option Datum) → List Chunk
each_of code no_fields es = []
each_of code (field name demand t fs) [] = []
each_of code (field name demand t fs) (e ∷ es) = if_spelled demand e (λ d. code t d) ++ each_of code fs es

-- how many presence bits components have
abbrev pub bitmap_length : Fields → ℕ
bitmap_length no_fields = 0
bitmap_length (field name must t fs) = bitmap_length fs
bitmap_length (field name optional t fs) = suc (bitmap_length fs)
bitmap_length (field name (default d) t fs) = suc (bitmap_length fs)

-- the entry of a component that is not spelt: its DEFAULT, where it has one
abbrev pub default_of : Demand → Option Datum
default_of must = None
default_of optional = None
default_of (default d) = Some d

-- the entry of one component, where it is known whether it is spelt
abbrev pub Entry : (Shape → Datum → List Chunk) → Demand → Shape → Bool → Option Datum → List Chunk → Type 0
Entry code demand t true = Map Some (Spelt code (default_of demand) t)
Entry code demand t false = Nothing (default_of demand)
