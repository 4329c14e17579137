-- Each kind of type in PER as a language that is put together from the languages of its parts, in the terms
-- of X.691.
use Rattle.std.specs.Prelude.{⊤, ◌≡◌, ◌≢◌, ◌+◌, ◌-◌, ◌^◌, ◌<◌, ◌≤◌, ◌⊎◌, ◌==◌, ℕ, zero, suc, nat_lt, ℤ, pos, ◌+ℤ◌, ◌≤ℤ◌, Bool, true, false, List, [], ◌∷◌, ◌++◌, length, Option, Some, None, IsUtf8}
use Rattle.std.specs.Option.{option_map}
use mathlib.Core.Logic.{inl, inr}
use Rattle.asn_values.specs.Datum.{Datum, truth, nothing, number, item, bit_list, octet_list, characters, unicode, components, elements, alternative, component_list, components_of, elements_of}
use Rattle.asn_values.specs.Shape.{Range, SizeRange, Alphabet, ia5, numeric, visible, Shape, boolean, null, integer, enumerated, bit_string, octet_string, restricted, utf8_string, sequence, sequence_of, choice, Label, MoreLabels, closed_labels, marked_labels, Fields, no_fields, field, closed, marked, demands, Alternatives, no_alternatives, one_of, MoreAlternatives, closed_choice, marked_choice, count}
use Rattle.asn_values.specs.Fits.{Fits, max_len, lowest_integer, highest_integer, in_range, in_size, FitsNumber}
use Rattle.asn_values.specs.Profile.{InProfile}
use Rattle.asn_bits.specs.Numbers.{bits, width, above, least_from}
use Rattle.asn_rules.specs.Chunks.{Chunk, open_field, utf8_field}
use Rattle.asn_rules.specs.Components.{number_at}
use Rattle.asn_rules.specs.Languages.{Then, Map, Nothing, Row, Plain, Sealed, prepended}
use Rattle.asn_bits.specs.Sets.{InSet}
use Rattle.asn_rules.specs.Forks.{Fork, Same}
use Rattle.asn_rules.specs.General.{General, after_first}
use Rattle.asn_rules.specs.Counted.{Counted, number_of, Least, signed_number, LeastSigned}
use Rattle.asn_rules.specs.Fields.{Octet}
use Rattle.asn_rules.specs.Listed.{IsOther, Spelt, Listed, bitmap_length}
use Rattle.asn_rules.specs.Reading.{Holds}
use Rattle.asn_rules.specs.Spellings.{SpelledBy}
use Rattle.asn_walk.specs.Coding.{absent_entries}
use Rattle.asn_per.specs.Per.{per, rank}
use Rattle.asn_per.specs.Rules.{per_ruling}
-- ranges with two bounds
pub use Rattle.asn_plan.specs.Bounds.{root_of, between}

-- ---- what the kinds are put together from

-- the values of a type, as they are spelt
abbrev pub Values : Shape → Datum → List Chunk → Type 0
Values t = SpelledBy (Fits t) (per t)

-- the value of the one form or of the other
abbrev pub of_either : {A : Type 0} → A ⊎ A → A
of_either (inl a) = a
of_either (inr a) = a

-- the numbers below a count, in k bits ("constrained whole number")
abbrev pub Below : ℕ → ℕ → ℕ → List Chunk → Type 0
Below k values = Plain (InSet k (λ n. n < values))

-- the numbers from 64 on and below a count, under the length of their octets ("semi-constrained whole number")
abbrev pub LargeBelow : ℕ → ℕ → List Chunk → Type 0
LargeBelow values = Map number_of (Counted 2 8 (Least (λ n. (64 ≤ n) × (n < values))))

-- the numbers below a count: 0, and 6 bits; or 1, and one of the others ("normally small non-negative whole number")
abbrev pub SmallBelow : ℕ → ℕ → List Chunk → Type 0
SmallBelow values = Map of_either (Fork (Below 6 values) (LargeBelow values))

-- ---- BOOLEAN and NULL

-- what a bit stands for
abbrev pub truth_of : ℕ → Bool
truth_of zero = false
truth_of (suc n) = true

-- a truth value in one bit
abbrev pub Bit : Bool → List Chunk → Type 0
Bit = Map truth_of (Below 1 2)

-- a BOOLEAN ("encoding the boolean type")
abbrev pub Booleans : Datum → List Chunk → Type 0
Booleans = Map truth Bit

-- NULL, which has no bits ("encoding the null type")
abbrev pub Nulls : Datum → List Chunk → Type 0
Nulls = Nothing nothing

-- ---- INTEGER

-- a number that does not lie between two bounds
abbrev pub IsNotBetween : Range → ℤ → Type 0
IsNotBetween b z = (b.low ≡ None) ⊎ ((b.high ≡ None) ⊎ (in_range b z ≡ false))

-- an integer of the profile outside the root
pub record IsOutside (b : Range) (z : ℤ) : Type 0 where
  pub least : lowest_integer ≤ℤ z
  pub most : z ≤ℤ highest_integer
  pub outside : in_range b z ≡ false

-- integers of a set, under the length of their octets ("unconstrained whole number")
abbrev pub Unconstrained : (ℤ → Type 0) → Datum → List Chunk → Type 0
Unconstrained S = Map number (Map signed_number (Counted 2 8 (LeastSigned S)))

-- the integers between the bounds: how far each lies above the low bound, in bits where there is a high one and
-- else under the length of its octets; without a low bound unconstrained
abbrev pub Ranged : Option ℤ → Option ℤ → Datum → List Chunk → Type 0
Ranged (Some low) (Some high) =
    Map (λ n. number (low +ℤ pos n)) (Below (width (suc (above low high))) (suc (above low high)))
Ranged (Some low) None =
    Map (λ n. number (low +ℤ pos n)) (Map number_of (Counted 2 8 (Least (λ n. n ≤ above low highest_integer))))
Ranged None high = Unconstrained (FitsNumber (record { low = None; high = high; extensible = false }))

-- after an extension mark, 0 and the form of the root, or 1 and an unconstrained number
abbrev pub Integers : Range → Datum → List Chunk → Type 0
Integers b = elim b.extensible [
  | false ↦ Ranged b.low b.high
  | true ↦ Map of_either (Fork (Ranged b.low b.high) (Unconstrained (IsOutside b)))
]

-- ---- ENUMERATED

-- the position of the item that has the index
abbrev pub position_of : List Label → ℕ → ℕ
position_of root n = least_from (λ p. rank root (number_at root p) == n) (length root) 0

-- the items of the root: an index in bits
abbrev pub RootItems : List Label → Datum → List Chunk → Type 0
RootItems root = Map (λ n. item (position_of root n)) (Below (width (length root)) (length root))

-- after an extension mark, 0 and an item of the root, or 1 and the index of an addition
abbrev pub Items : List Label → MoreLabels → Datum → List Chunk → Type 0
Items root closed_labels = RootItems root
Items root (marked_labels more) =
    Map of_either (Fork (RootItems root) (Map (λ k. item (length root + k)) (SmallBelow (length more))))

-- ---- lists under a size

-- the counts of the profile outside the root of a size
pub record IsOtherCount (s : SizeRange) (n : ℕ) : Type 0 where
  pub most : n ≤ max_len
  pub outside : in_size s n ≡ false

-- a count between the bounds, in bits
abbrev pub CountWithin : ℕ → ℕ → ℕ → List Chunk → Type 0
CountWithin low high = Map (λ k. low + k) (Below (width (suc (high - low))) (suc (high - low)))

-- items of a count between the bounds: after the count in bits, or under their general length
abbrev pub RootForm : {A : Type 0} → Bool → ℕ → ℕ → (A → List Chunk → Type 0) → List A → List Chunk → Type 0
RootForm true low high L = Map after_first (Then (CountWithin low high) (λ n. Row L n))
RootForm false low high L = General L (λ n. (low ≤ n) × (n ≤ high))

-- items of a count in the root: after the count where the upper bound is below 65,536 ("length determinant")
abbrev pub RootSized : {A : Type 0} → ℕ → Option ℕ → (A → List Chunk → Type 0) → List A → List Chunk → Type 0
RootSized low (Some high) L = RootForm (nat_lt high 65536) low high L
RootSized low None L = RootForm false low max_len L

-- after an extension mark, 0 and the form of the root, or 1 and the items under their general length
abbrev pub Sized : {A : Type 0} → SizeRange → (A → List Chunk → Type 0) → List A → List Chunk → Type 0
Sized s L = elim s.extensible [
  | false ↦ RootSized s.low s.high L
  | true ↦ Map of_either (Fork (RootSized s.low s.high L) (General L (IsOtherCount s)))
]

-- a BIT STRING ("encoding the bitstring type")
abbrev pub BitStrings : SizeRange → Datum → List Chunk → Type 0
BitStrings s = Map bit_list (Sized s Bit)

-- an OCTET STRING ("encoding the octetstring type")
abbrev pub OctetStrings : SizeRange → Datum → List Chunk → Type 0
OctetStrings s = Map octet_list (Sized s Octet)

-- the character of NumericString with the index
abbrev pub numeric_at : ℕ → ℕ
numeric_at zero = 32
numeric_at (suc n) = 48 + n

-- a character ("known-multiplier character string types")
abbrev pub Character : Alphabet → ℕ → List Chunk → Type 0
Character ia5 = Plain (InSet 7 (λ c. c < 128))
Character visible = Plain (InSet 7 (λ c. (32 ≤ c) × (c ≤ 126)))
Character numeric = Map numeric_at (Plain (InSet 4 (λ n. n < 11)))

-- an IA5String, NumericString or VisibleString
abbrev pub Texts : Alphabet → SizeRange → Datum → List Chunk → Type 0
Texts k s = Map characters (Sized s (Character k))

-- a SEQUENCE OF ("encoding the sequence-of type")
abbrev pub ListsOf : Shape → SizeRange → Datum → List Chunk → Type 0
ListsOf t s = Map (λ vs. elements (elements_of vs)) (Sized s (Values t))

-- ---- UTF8String

-- the content of the field is the string's octets
pub record IsUtf8Content (os c : List ℕ) : Type 0 where
  pub text : IsUtf8 os
  pub most : length os ≤ max_len
  pub same : c ≡ os

-- a UTF8String: its octets under their general length
abbrev pub Utf8Strings : Datum → List Chunk → Type 0
Utf8Strings = Map unicode (Sealed utf8_field IsUtf8Content)

-- ---- CHOICE

-- the values of a type in open fields ("open type fields"), each a complete encoding
abbrev pub OpenValues : Shape → Datum → List Chunk → Type 0
OpenValues t = Sealed open_field (Holds per_ruling t)

-- the values of the alternative at an index
abbrev pub Chosen : Alternatives → ℕ → Datum → List Chunk → Type 0
Chosen no_alternatives i = λ v cs. ⊥
Chosen (one_of name t alts) zero = Values t
Chosen (one_of name t alts) (suc i) = Chosen alts i

-- the same in open fields
abbrev pub OpenChosen : Alternatives → ℕ → Datum → List Chunk → Type 0
OpenChosen no_alternatives i = λ v cs. ⊥
OpenChosen (one_of name t alts) zero = OpenValues t
OpenChosen (one_of name t alts) (suc i) = OpenChosen alts i

-- an alternative of the root: its index in bits, and its value
abbrev pub RootChoices : Alternatives → Datum → List Chunk → Type 0
RootChoices root = Map (λ p. alternative p.0 p.1) (Then (Below (width (count root)) (count root)) (λ i. Chosen root i))

-- an addition after `before` alternatives: its index among the additions, and its value in an open field
abbrev pub AddedChoices : ℕ → Alternatives → Datum → List Chunk → Type 0
AddedChoices before more =
    Map (λ p. alternative (before + p.0) p.1) (Then (SmallBelow (count more)) (λ i. OpenChosen more i))

-- after an extension mark, 0 and an alternative of the root, or 1 and an addition
abbrev pub Choices : Alternatives → MoreAlternatives → Datum → List Chunk → Type 0
Choices root closed_choice = RootChoices root
Choices root (marked_choice more) = Map of_either (Fork (RootChoices root) (AddedChoices (count root) more))

-- ---- SEQUENCE with an extension mark

-- the additions that are present by these bits, each in an open field
abbrev pub OpenListed : Fields → List ℕ → List (Option Datum) → List Chunk → Type 0
OpenListed no_fields bits = Nothing []
OpenListed (field name demand t fs) (suc b ∷ bits) =
    Map prepended (Then (Map Some (OpenValues t)) (λ _. OpenListed fs bits))
OpenListed (field name demand t fs) (zero ∷ bits) = Map (λ es. None ∷ es) (OpenListed fs bits)
OpenListed (field name demand t fs) [] = λ es cs. ⊥

-- the count of the additions, 0 and 6 bits ("normally small length")
abbrev pub AdditionCount : ℕ → ℕ → List Chunk → Type 0
AdditionCount n = Plain (InSet 7 (λ k. k + 1 ≡ n))

-- a presence bit for each of n additions, one of which is 1
abbrev pub SomePresent : ℕ → ℕ → List Chunk → Type 0
SomePresent n = Plain (InSet n (λ b. (0 < b) × (b < 2 ^ n)))

-- additions of which one is present: their count, their presence bits, and the open fields of those that are
abbrev pub Additions : Fields → List (Option Datum) → List Chunk → Type 0
Additions fs =
    let n = length (demands fs) in
    Map after_first
    (Then (AdditionCount n) (λ k. Map after_first (Then (SomePresent n) (λ b. OpenListed fs (bits n b)))))

-- a SEQUENCE with further entries
abbrev pub with_entries : Datum × List (Option Datum) → Datum
with_entries (components cs, es) = components (components_of (component_list cs ++ es))
with_entries (v, es) = v

-- after an extension mark, 0 and the SEQUENCE of the root, or 1, the SEQUENCE of the root and the additions
abbrev pub MarkedSequences : Fields → Fields → Datum → List Chunk → Type 0
MarkedSequences root fs =
    Map of_either (Fork (Map (λ v. with_entries (v, absent_entries fs)) (Values (sequence root closed)))
    (Map with_entries (Then (Values (sequence root closed)) (λ v. Additions fs))))

-- ---- SEQUENCE without an extension mark

-- the entries after a presence bitmap
abbrev pub entries_after : ℕ × List (Option Datum) → Datum
entries_after p = components (components_of p.1)

-- a presence bitmap, which is any number of as many bits, and the components under it
abbrev pub Sequences : Fields → Datum → List Chunk → Type 0
Sequences fs =
    Map entries_after
    (Then (Below (bitmap_length fs) (2 ^ bitmap_length fs)) (λ n. Listed per fs (bits (bitmap_length fs) n)))

-- ---- what each kind of type is put together from

-- "encoding the boolean type"
abbrev pub BooleansCompose : Type 0
BooleansCompose = Same Booleans (Values boolean)

-- "encoding the null type"
abbrev pub NullsCompose : Type 0
NullsCompose = Same Nulls (Values null)

-- "encoding the integer type"
abbrev pub IntegersCompose : Type 0
IntegersCompose = (b : Range) → InProfile (integer b) → Same (Integers b) (Values (integer b))

-- "encoding the enumerated type"
abbrev pub EnumeratedCompose : Type 0
EnumeratedCompose =
    (root : List Label) (more : MoreLabels) → InProfile (enumerated root more)
    → Same (Items root more) (Values (enumerated root more))

-- "encoding the bitstring type"
abbrev pub BitStringsCompose : Type 0
BitStringsCompose = (s : SizeRange) → InProfile (bit_string s) → Same (BitStrings s) (Values (bit_string s))

-- "encoding the octetstring type"
abbrev pub OctetStringsCompose : Type 0
OctetStringsCompose = (s : SizeRange) → InProfile (octet_string s) → Same (OctetStrings s) (Values (octet_string s))

-- "encoding the restricted character string types", those of known multiplier
abbrev pub TextsCompose : Type 0
TextsCompose = (k : Alphabet) (s : SizeRange) → InProfile (restricted k s) → Same (Texts k s) (Values (restricted k s))

-- the same, UTF8String
abbrev pub Utf8StringsCompose : Type 0
Utf8StringsCompose = Same Utf8Strings (Values utf8_string)

-- "encoding the sequence-of type"
abbrev pub ListsCompose : Type 0
ListsCompose = (t : Shape) (s : SizeRange) → InProfile (sequence_of t s) → Same (ListsOf t s) (Values (sequence_of t s))

-- a list of a fixed count below 65,536 has no length: bits, octets, characters and elements
abbrev pub FixedSizesCompose : Type 0
FixedSizesCompose =
    ((n : ℕ) → n < 65536 → Same (Row Bit n) (RootSized n (Some n) Bit))
    × ((n : ℕ) → n < 65536 → Same (Row Octet n) (RootSized n (Some n) Octet))
    × ((k : Alphabet) (n : ℕ) → n < 65536 → Same (Row (Character k) n) (RootSized n (Some n) (Character k)))
    × ((t : Shape) (n : ℕ) → n < 65536 → Same (Row (Values t) n) (RootSized n (Some n) (Values t)))

-- "encoding the choice type"
abbrev pub ChoicesCompose : Type 0
ChoicesCompose =
    (root : Alternatives) (more : MoreAlternatives) → InProfile (choice root more)
    → Same (Choices root more) (Values (choice root more))

-- "encoding the sequence type", without an extension mark
abbrev pub SequencesCompose : Type 0
SequencesCompose =
    (root : Fields) → InProfile (sequence root closed) → Same (Sequences root) (Values (sequence root closed))

-- "encoding the sequence type", with an extension mark
abbrev pub MarkedSequencesCompose : Type 0
MarkedSequencesCompose =
    (root fs : Fields) → InProfile (sequence root (marked fs))
    → Same (MarkedSequences root fs) (Values (sequence root (marked fs)))

-- ---- components with a DEFAULT, which is not spelt: the values but for one

-- the index of the item that is left out is not among those of the root
abbrev pub IndexesBut : List Label → Option ℕ → ℕ → Type 0
IndexesBut root None n = n < length root
IndexesBut root (Some p) n = (n < length root) × (n ≢ rank root (number_at root p))

-- an item of the root that may be left out is one of it
abbrev pub IsRootPosition : List Label → Option ℕ → Type 0
IsRootPosition root None = ⊤
IsRootPosition root (Some p) = p < length root

-- the items of the root but for that one: an index in bits
abbrev pub RootItemsBut : List Label → Option ℕ → Datum → List Chunk → Type 0
RootItemsBut root p = Map (λ n. item (position_of root n)) (Plain (InSet (width (length root)) (IndexesBut root p)))

-- ENUMERATED but for one item
abbrev pub EnumeratedButOne : Type 0
EnumeratedButOne =
    (root : List Label) (p : Option ℕ) → InProfile (enumerated root closed_labels) → IsRootPosition root p →
    Same (RootItemsBut root p) (Spelt per (option_map item p) (enumerated root closed_labels))

-- INTEGER without a low bound but for one
abbrev pub UnboundedButOne : Type 0
UnboundedButOne =
    (high e : Option ℤ) →
    Same (Unconstrained (λ z.
    FitsNumber (record { low = None; high = high; extensible = false }) z
    × IsOther (option_map number e) (number z)))
    (Spelt per (option_map number e) (integer (record { low = None; high = high; extensible = false })))
