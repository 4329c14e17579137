-- What encodings of SEQUENCE OF and CHOICE consist of in Canonical OER (X.696).
use Rattle.std.specs.Prelude.{◌+◌, ◌-◌, ◌*◌, ◌/◌, ◌<◌, ℕ, zero, suc, true, false, List, [], ◌∷◌, min, nat_lt}
use Rattle.asn_values.specs.Datum.{Datum, elements, alternative, elements_of}
use Rattle.asn_values.specs.Shape.{Shape, SizeRange, Alternatives, no_alternatives, one_of, MoreAlternatives, closed_choice, marked_choice, more_alternatives, count}
use Rattle.asn_values.specs.Fits.{Fits, FitsLength}
use Rattle.asn_rules.specs.Chunks.{Chunk, open_field}
use Rattle.asn_rules.specs.Languages.{Then, Map, Nothing, Row, Plain, Sealed}
use Rattle.asn_bits.specs.Sets.{InDigits, Among, Between}
use Rattle.asn_rules.specs.Counted.{Counted, number_of, Least}
use Rattle.asn_rules.specs.Reading.{Holds}
use Rattle.asn_rules.specs.Spellings.{SpelledBy}
use Rattle.asn_oer.specs.Oer.{oer}
use Rattle.asn_oer.specs.Rules.{oer_ruling}

-- the values of a type, as they are spelt
abbrev pub Values : Shape → Datum → List Chunk → Type 0
Values t = SpelledBy (Fits t) (oer t)

-- the same in an open field ("open type")
abbrev pub InOpenField : Shape → Datum → List Chunk → Type 0
InOpenField t = Sealed open_field (Holds oer_ruling t)

-- ---- SEQUENCE OF ("encoding of sequence-of types")

-- how many elements there are, of the counts of the set: an INTEGER from 0 on
abbrev pub Quantity : (ℕ → Type 0) → ℕ → List Chunk → Type 0
Quantity S = Map number_of (Counted 256 1 (Least S))

-- the elements without their quantity
abbrev pub elements_told : ℕ × List Datum → Datum
elements_told p = elements (elements_of p.1)

-- the quantity, and as many elements
abbrev pub Lists : Shape → SizeRange → Datum → List Chunk → Type 0
Lists t s = Map elements_told (Then (Quantity (FitsLength s)) (λ n. Row (Values t) n))

-- ---- CHOICE ("encoding of choice types")

-- the values of the alternative at the index, each type having its language
abbrev pub OneOf : (Shape → Datum → List Chunk → Type 0) → Alternatives → ℕ → Datum → List Chunk → Type 0
OneOf L no_alternatives t = λ d cs. ⊥
OneOf L (one_of name shape alts) zero = L shape
OneOf L (one_of name shape alts) (suc t) = OneOf L alts t

-- of the alternatives after the extension mark, in open fields
abbrev pub OneOfMore : MoreAlternatives → ℕ → Datum → List Chunk → Type 0
OneOfMore closed_choice t = λ d cs. ⊥
OneOfMore (marked_choice alts) t = OneOf InOpenField alts t

-- the values of the alternative with the tag
abbrev pub Alternative : Alternatives → MoreAlternatives → ℕ → Datum → List Chunk → Type 0
Alternative root more t =
    elim (nat_lt t (count root)) [ true ↦ OneOf Values root t | false ↦ OneOfMore more (t - count root) ]

-- ---- tags, those of n alternatives from 0 on, n at most 16384 ("encoding of tags")

-- the first octet of a tag: 128 and the tag up to 62, or 191 in front of another
abbrev pub TagOctet : ℕ → ℕ → Type 0
TagOctet n = Between 128 (127 + min n 64)

-- after 191 the first octet of base 128: the tag up to 127, or 128 and the quotient of another by 128
abbrev pub LongTagOctet : ℕ → ℕ → Type 0
LongTagOctet n = Among ((63, min n 128 - 1) ∷ (129, 128 + (n - 1) / 128) ∷ [])

-- the tag with this octet of base 128 and the last one
abbrev pub tag_ended : ℕ → ℕ → ℕ
tag_ended b c = 128 * (b - 128) + c

-- the last octet, whose high bit is not set
abbrev pub LastTagOctet : ℕ → ℕ → ℕ → Type 0
LastTagOctet n b c = (c < 128) × (tag_ended b c < n)

-- after the first octet of base 128 nothing, or the last octet
abbrev pub AfterLongTagOctet : ℕ → ℕ → ℕ → List Chunk → Type 0
AfterLongTagOctet n b =
    elim (nat_lt b 128) [ true ↦ Nothing b | false ↦ Map (tag_ended b) (Plain (InDigits 256 1 (LastTagOctet n b))) ]

-- the tag without its first octet
abbrev pub tag_told : ℕ × ℕ → ℕ
tag_told p = p.1

-- the tags from 63 on in base 128
abbrev pub LongTags : ℕ → ℕ → List Chunk → Type 0
LongTags n = Map tag_told (Then (Plain (InDigits 256 1 (LongTagOctet n))) (AfterLongTagOctet n))

-- after the first octet of a tag nothing, or base 128
abbrev pub AfterTagOctet : ℕ → ℕ → ℕ → List Chunk → Type 0
AfterTagOctet n b = elim (nat_lt b 191) [ true ↦ Nothing (b - 128) | false ↦ LongTags n ]

-- the context-specific tags below n
abbrev pub Tags : ℕ → ℕ → List Chunk → Type 0
Tags n = Map tag_told (Then (Plain (InDigits 256 1 (TagOctet n))) (AfterTagOctet n))

-- the value of the alternative with the tag
abbrev pub alternative_told : ℕ × Datum → Datum
alternative_told p = alternative p.0 p.1

-- the tag, and a value of its alternative
abbrev pub Choices : Alternatives → MoreAlternatives → Datum → List Chunk → Type 0
Choices root more =
    Map alternative_told (Then (Tags (count root + count (more_alternatives more))) (λ t. Alternative root more t))
