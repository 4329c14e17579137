-- What a set of encoding rules says of the parts that all composite kinds of type are made of, and the languages of
-- these kinds, put together from the parts.
use Rattle.std.specs.Prelude.{◌≡◌, ◌+◌, ◌^◌, ◌<◌, ◌≤◌, ◌⊎◌, ℕ, zero, suc, Bool, true, false, List, [], ◌∷◌, ◌++◌, length, Option, Some, None, ⊤, is_some}
use mathlib.Core.Logic.{inl, inr}
use Rattle.asn_values.specs.Datum.{Datum, components, components_of, elements, elements_of, alternative}
use Rattle.asn_values.specs.Profile.{most_alternatives}
use Rattle.asn_values.specs.Shape.{SizeRange, Shape, Fields, no_fields, field, MoreFields, closed, marked, more_fields, demands, Alternatives, no_alternatives, one_of, MoreAlternatives, closed_choice, marked_choice, more_alternatives, count}
use Rattle.asn_values.specs.View.{datum_of}
use Rattle.asn_bits.specs.Numbers.{bits}
use Rattle.asn_rules.specs.Answer.{Ruling}
use Rattle.asn_rules.specs.Chunks.{Chunk, ones, open_field}
use Rattle.asn_rules.specs.Components.{extension_bit}
use Rattle.asn_rules.specs.General.{after_first}
use Rattle.asn_rules.specs.Languages.{Then, Map, Nothing, Sealed, prepended}
use Rattle.asn_rules.specs.Listed.{Spelt, Listed, bitmap_length}
use Rattle.asn_rules.specs.Live.{Fielding}
use Rattle.asn_rules.specs.Reading.{Holds}
use Rattle.asn_rules.specs.Spellings.{SpelledBy}
use Rattle.asn_walk.specs.Ahead.{Ahead, Remaining}

-- what a set of encoding rules says of the parts
pub record Coding : Type 1 where
  pub ruling : Ruling
  -- how many units an octet is
  pub octet_units : ℕ
  -- the spelling of a value that is part of another
  pub code : Shape → Datum → List Chunk
  -- the units that the bits of a cursor are, and whether these bits begin at a unit
  pub to_units : List ℕ → List ℕ
  pub at_unit : List ℕ → Type 0
  -- the bits of a sink that units are
  pub to_bits : List ℕ → List ℕ
  -- what stands before the components of a SEQUENCE, of its extension bit and its presence bitmap
  pub preamble : List ℕ → List ℕ
  -- what stands before the open fields of its extension additions, of their presence bitmap
  pub addition_bitmap : List ℕ → List ℕ
  -- what tells the alternative of a CHOICE: how many the root has, whether there is an extension mark, and the index
  -- in the root or among the additions
  pub index : ℕ → Bool → ℕ ⊎ ℕ → List ℕ
  -- what stands before the items of a list under a size, up to the first length
  pub list_start : SizeRange → Ahead → List Chunk → Type 0
  -- the items of a list under a size, with what tells their count
  pub sized : SizeRange → List (List Chunk) → List Chunk
  -- what fills up a complete encoding whose value has this many units
  pub padding : ℕ → List ℕ
  -- the octets of the complete encoding of a value that is spelt so
  pub complete : List Chunk → List ℕ

-- how sealed fields are spelt
abbrev pub fields_of_rules : Coding → Fielding
fields_of_rules c = c.ruling.fielding

-- ---- SEQUENCE

-- additions can be present
abbrev pub CanExtend : Option ℕ → Type 0
CanExtend None = ⊥
CanExtend (Some zero) = ⊥
CanExtend (Some (suc n)) = ⊤

-- how many additions there are, where there is a mark
abbrev pub added : MoreFields → Option ℕ
added closed = None
added (marked fs) = Some (length (demands fs))

-- whether some addition is present, and a presence bitmap of this many bits
abbrev pub GoodPreamble : ℕ → Option ℕ → Bool × ℕ → Type 0
GoodPreamble n more p = (p.1 < 2 ^ n) × (p.0 ≡ true → CanExtend more)

abbrev pub PreambleOf : Coding → ℕ → Option ℕ → Bool × ℕ → List Chunk → Type 0
PreambleOf c n more =
    SpelledBy (GoodPreamble n more) (λ p. ones (c.preamble (extension_bit (is_some more) p.0 ++ bits n p.1)))

-- the presence bits of n additions, of which one is 1
abbrev pub AdditionBitmapOf : Coding → ℕ → ℕ → List Chunk → Type 0
AdditionBitmapOf c n = SpelledBy (λ m. (0 < m) × (m < 2 ^ n)) (λ m. ones (c.addition_bitmap (bits n m)))

-- the values of a type in open fields
abbrev pub OpenOf : Coding → Shape → Datum → List Chunk → Type 0
OpenOf c t = Sealed open_field (Holds c.ruling t)

-- the additions that are present by these bits, each in an open field
abbrev pub OpenListed : Coding → Fields → List ℕ → List (Option Datum) → List Chunk → Type 0
OpenListed c no_fields bits = Nothing []
OpenListed c (field name demand t fs) (suc b ∷ bits) =
    Map prepended (Then (Map Some (OpenOf c t)) (λ _. OpenListed c fs bits))
OpenListed c (field name demand t fs) (zero ∷ bits) = Map (λ es. None ∷ es) (OpenListed c fs bits)
OpenListed c (field name demand t fs) [] = λ es cs. ⊥

-- additions of which one is present: their presence bits, and the open fields of those that are
abbrev pub AdditionsOf : Coding → Fields → List (Option Datum) → List Chunk → Type 0
AdditionsOf c fs = Map after_first
    (Then (AdditionBitmapOf c (length (demands fs))) (λ m. OpenListed c fs (bits (length (demands fs)) m)))

-- the entries of additions that are all absent
abbrev pub absent_entries : Fields → List (Option Datum)
absent_entries no_fields = []
absent_entries (field name demand t fs) = None ∷ absent_entries fs

-- by the extension bit
abbrev pub AddedOf : Coding → MoreFields → Bool → List (Option Datum) → List Chunk → Type 0
AddedOf c more false = Nothing (absent_entries (more_fields more))
AddedOf c more true = AdditionsOf c (more_fields more)

-- the components and additions, without the preamble
abbrev pub sequence_told : (Bool × ℕ) × (List (Option Datum) × List (Option Datum)) → Datum
sequence_told p = components (components_of (p.1.0 ++ p.1.1))

-- the preamble, the components under its presence bits, and the additions under its extension bit
abbrev pub SequencesOf : Coding → Fields → MoreFields → Datum → List Chunk → Type 0
SequencesOf c root more =
    Map sequence_told (Then (PreambleOf c (bitmap_length root) (added more))
    (λ p. Then (Listed c.code root (bits (bitmap_length root) p.1)) (λ _. AddedOf c more p.0)))

-- ---- SEQUENCE OF

-- items of the language under a size
abbrev pub ListingOf : {A : Type 0} → Coding → SizeRange → (A → List Chunk → Type 0) → List A → List Chunk → Type 0
ListingOf c s L = Map after_first (Then (c.list_start s) (λ a. Remaining L a))

abbrev pub ListsOf : Coding → Shape → SizeRange → Datum → List Chunk → Type 0
ListsOf c t s = Map (λ vs. elements (elements_of vs)) (ListingOf c s (Spelt c.code None t))

-- ---- CHOICE

abbrev pub added_alternatives : MoreAlternatives → Option ℕ
added_alternatives closed_choice = None
added_alternatives (marked_choice alts) = Some (count alts)

-- an index of this many of the root, or of this many additions where there is an extension mark
abbrev pub IsIndexWithin : ℕ → Option ℕ → ℕ ⊎ ℕ → Type 0
IsIndexWithin root more (inl n) = n < root
IsIndexWithin root None (inr n) = ⊥
IsIndexWithin root (Some more) (inr n) = n < more

-- there are few of both
abbrev pub AreFew : ℕ → Option ℕ → Type 0
AreFew root None = root ≤ most_alternatives
AreFew root (Some more) = root + more ≤ most_alternatives

abbrev pub IndexOf : Coding → ℕ → Option ℕ → ℕ ⊎ ℕ → List Chunk → Type 0
IndexOf c root more = SpelledBy (IsIndexWithin root more) (λ i. ones (c.index root (is_some more) i))

-- the values of the alternative at an index, each type having its language
abbrev pub ChosenOf : (Shape → Datum → List Chunk → Type 0) → Alternatives → ℕ → Datum → List Chunk → Type 0
ChosenOf L no_alternatives i = λ v cs. ⊥
ChosenOf L (one_of name t alts) zero = L t
ChosenOf L (one_of name t alts) (suc i) = ChosenOf L alts i

abbrev pub ChosenBy : Coding → Alternatives → MoreAlternatives → ℕ ⊎ ℕ → Datum → List Chunk → Type 0
ChosenBy c root more (inl i) = ChosenOf (λ t. Spelt c.code None t) root i
ChosenBy c root more (inr k) = ChosenOf (λ t. OpenOf c t) (more_alternatives more) k

abbrev pub chosen_value : Alternatives → (ℕ ⊎ ℕ) × Datum → Datum
chosen_value root (inl i, v) = alternative i v
chosen_value root (inr k, v) = alternative (count root + k) v

abbrev pub ChoicesOf : Coding → Alternatives → MoreAlternatives → Datum → List Chunk → Type 0
ChoicesOf c root more =
    Map (chosen_value root) (Then (IndexOf c (count root) (added_alternatives more)) (ChosenBy c root more))
