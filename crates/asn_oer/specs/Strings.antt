-- What encodings of strings consist of in Canonical OER (X.696).
use Rattle.std.specs.Prelude.{◌≡◌, ◌≤◌, ℕ, true, false, List, length, IsUtf8}
use Rattle.asn_values.specs.Datum.{Datum, bit_list, octet_list, characters, unicode}
use Rattle.asn_values.specs.Shape.{SizeRange, Alphabet}
use Rattle.asn_values.specs.Fits.{FitsLength, max_len}
use Rattle.asn_values.specs.Profile.{is_fixed_size}
use Rattle.asn_rules.specs.Chunks.{Chunk, utf8_field}
use Rattle.asn_rules.specs.Languages.{Then, Map, Row, Sealed}
use Rattle.asn_rules.specs.Fields.{OneOctet, OctetLength, octets_told}
use Rattle.asn_rules.specs.OctetStrings.{Character, PackedBits, VariableBits}

-- ---- octets and characters

-- items of a count of the set, after it
abbrev pub ItemsAfterLength : (ℕ → Type 0) → (ℕ → List Chunk → Type 0) → List ℕ → List Chunk → Type 0
ItemsAfterLength S L = Map octets_told (Then (OctetLength S) (λ n. Row L n))

-- as many items as the size says, or, where it leaves more than one count, items after their count
abbrev pub Sized : SizeRange → (ℕ → List Chunk → Type 0) → List ℕ → List Chunk → Type 0
Sized s L = elim (is_fixed_size s) [ true ↦ Row L s.low | false ↦ ItemsAfterLength (FitsLength s) L ]

-- octets of a size ("encoding of octet string types")
abbrev pub OctetStrings : SizeRange → Datum → List Chunk → Type 0
OctetStrings s = Map octet_list (Sized s OneOctet)

-- characters of a size ("encoding of restricted character string types", one octet a character)
abbrev pub CharacterStrings : Alphabet → SizeRange → Datum → List Chunk → Type 0
CharacterStrings k s = Map characters (Sized s (Character k))

-- octets that are UTF-8, and the value that they are
pub record IsUnicodeOf (v : Datum) (os : List ℕ) : Type 0 where
  pub seen : v ≡ unicode os
  pub few : length os ≤ max_len
  pub utf8 : IsUtf8 os

-- a length and the octets, judged at their end (the same, for UTF8String)
abbrev pub Utf8Strings : Datum → List Chunk → Type 0
Utf8Strings = Sealed utf8_field IsUnicodeOf

-- ---- bits ("encoding of bit string types")

-- bits of a size
abbrev pub BitStrings : SizeRange → Datum → List Chunk → Type 0
BitStrings s = Map bit_list (elim (is_fixed_size s) [ true ↦ PackedBits s.low | false ↦ VariableBits (FitsLength s) ])
