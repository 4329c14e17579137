-- What calls answer about the part of a value at a path.
use Rattle.std.specs.Prelude.{◌≡◌, ◌⊎◌, ℕ, ℤ, pos, List, Bool, true, false, Option, Some, None, option_map, option_and_then, slice_get, IsUtf8, FitsSigned, MatchOption}
use Rattle.std.specs.Int.{FitsUnsigned}
use mir.Syntax.{w64}
use Rattle.asn_view.specs.Typed.{Typed, truth_of, integer_of, octets_of, bits_of, text_of, length_of, item_name_in, chosen_in}
use Rattle.asn_view.specs.Paths.{value_at_path}
use Rattle.asn_view.specs.Kinds.{kind_of}
use Rattle.asn_view.specs.declared.kind.Kind.{Kind}
use Rattle.asn_view.specs.declared.kind.Kind.TheVariants as kind
use Rattle.tulvorn_c.specs.declared.fault.Fault.{Fault}
use Rattle.tulvorn_c.specs.Faults.{plain, done}
use Rattle.tulvorn_c.specs.Answers.{Asked, Copies, AreAsBefore}
use Rattle.tulvorn_c.specs.Paths.{shape_at_path, code_without}

-- the path is not UTF-8, or the value has no part there, as no value of the type has, or as others have
abbrev pub HasNoPart : List ℕ → Typed → Fault → Type 0
HasNoPart path v fault =
    ((fault ≡ plain 8) × ¬ IsUtf8 path)
    ⊎ ((fault ≡ plain (code_without (shape_at_path path v.shape))) × (value_at_path path v ≡ None))

-- the answer is told of the part at the path; where there is none, what the call writes stays as it was
abbrev pub TellsPart : List ℕ → Type 0 → (Typed → Fault → Type 0) → Typed → Fault → Type 0
TellsPart path Stays Tells v fault =
    (HasNoPart path v fault × Stays) ⊎ ((part : Typed) × (value_at_path path v ≡ Some part) × Tells part fault)

-- and where the handle holds no value
abbrev pub AskedPart : Option Typed → List ℕ → Type 0 → (Typed → Fault → Type 0) → Fault → Type 0
AskedPart v path Stays Tells fault = Asked v Stays (TellsPart path Stays Tells) fault

-- the part is of another kind, and what the call writes stays as it was
abbrev pub IsOtherKind : Type 0 → Fault → Type 0
IsOtherKind Stays fault = (fault ≡ plain 15) × Stays

-- ---- kinds

abbrev pub number_of_kind : Kind → ℕ
number_of_kind kind.Boolean = 1
number_of_kind kind.Null = 2
number_of_kind kind.Integer = 3
number_of_kind kind.Enumerated = 4
number_of_kind kind.BitString = 5
number_of_kind kind.OctetString = 6
number_of_kind kind.CharacterString = 7
number_of_kind kind.Sequence = 8
number_of_kind kind.SequenceOf = 9
number_of_kind kind.Choice = 10

abbrev pub TellsKind : ℕ → Typed → Fault → Type 0
TellsKind new part fault = (fault ≡ done) × (new ≡ number_of_kind (kind_of part.shape))

-- ---- parts without parts

abbrev pub number_of_truth : Bool → ℕ
number_of_truth false = 0
number_of_truth true = 1

abbrev pub TellsTruth : ℕ → ℕ → Typed → Fault → Type 0
TellsTruth old new part fault =
    MatchOption (truth_of part.datum) (IsOtherKind (new ≡ old) fault) (λ b.
    (fault ≡ done) × (new ≡ number_of_truth b))

-- a number of 64 bits with a sign; another is of another kind
abbrev pub TellsInteger : ℤ → ℤ → Typed → Fault → Type 0
TellsInteger old new part fault =
    ((fault ≡ done) × (integer_of part.datum ≡ Some new))
    ⊎ (IsOtherKind (new ≡ old) fault × ((z : ℤ) → integer_of part.datum ≡ Some z → ¬ FitsSigned w64 z))

-- a number of 64 bits without a sign; another is of another kind
abbrev pub TellsUnsigned : ℕ → ℕ → Typed → Fault → Type 0
TellsUnsigned old new part fault =
    ((fault ≡ done) × (integer_of part.datum ≡ Some (pos new)))
    ⊎ (IsOtherKind (new ≡ old) fault × ((z : ℤ) → integer_of part.datum ≡ Some z → ¬ FitsUnsigned w64 z))

-- octets are put in front, or there are none of this kind
abbrev pub TellsOctets : (Typed → Option (List ℕ)) → List ℕ → List ℕ → ℕ → ℕ → Typed → Fault → Type 0
TellsOctets octets_in old new before after part fault =
    MatchOption (octets_in part) (IsOtherKind (AreAsBefore old new before after) fault) (λ octets.
    Copies old new after octets fault)

-- those of an OCTET STRING
abbrev pub octets_in : Typed → Option (List ℕ)
octets_in part = octets_of part.datum

-- the name of the item of an ENUMERATED, or of the chosen alternative of a CHOICE
abbrev pub or_name_of_choice : Option (List ℕ) → Typed → Option (List ℕ)
or_name_of_choice (Some name) part = Some name
or_name_of_choice None part = option_map (λ chosen. chosen.0) (chosen_in part)

abbrev pub name_in : Typed → Option (List ℕ)
name_in part = or_name_of_choice (item_name_in part) part

-- the characters of a character string, which are UTF-8
abbrev pub TellsText : List ℕ → List ℕ → ℕ → ℕ → Typed → Fault → Type 0
TellsText old new before after part fault =
    ((text : List ℕ) × (text_of part.datum ≡ Some text) × Copies old new after text fault)
    ⊎ (IsOtherKind (AreAsBefore old new before after) fault
    × ((text : List ℕ) → text_of part.datum ≡ Some text → ¬ IsUtf8 text))

-- how many elements, bits, octets or characters
abbrev pub TellsCount : ℕ → Typed → Fault → Type 0
TellsCount new part fault = (fault ≡ done) × (new ≡ length_of part.datum)

-- the bit of a BIT STRING at this index
abbrev pub bit_in : ℕ → Typed → Option Bool
bit_in index part = option_and_then (λ bs. slice_get bs index) (bits_of part.datum)

abbrev pub TellsBit : ℕ → ℕ → ℕ → Typed → Fault → Type 0
TellsBit index old new part fault =
    MatchOption (bit_in index part) (IsOtherKind (new ≡ old) fault) (λ b.
    (fault ≡ done) × (new ≡ number_of_truth b))
