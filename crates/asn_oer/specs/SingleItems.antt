-- What stands before the octets of open type fields and the items of strings in Canonical OER (X.696), and an item:
-- the parts that a reader of messages in pieces may be cut in.
use Rattle.std.specs.Prelude.{◌≡◌, ◌-◌, ℕ, true, false, List, [], ◌∷◌, ⊤}
use Rattle.asn_bits.specs.Numbers.{packed}
use Rattle.asn_values.specs.Datum.{Datum, unicode}
use Rattle.asn_values.specs.Fits.{FitsLength, max_len}
use Rattle.asn_values.specs.Profile.{is_fixed_size}
use Rattle.asn_values.specs.Shape.{SizeRange, Shape, bit_string, octet_string, restricted, utf8_string}
use Rattle.asn_bits.specs.Sets.{Between, InDigits}
use Rattle.asn_rules.specs.Chunks.{Chunk}
use Rattle.asn_rules.specs.Fields.{OneOctet, OctetLength, octet_fields}
use Rattle.asn_rules.specs.Filled.{filled_octets}
use Rattle.asn_rules.specs.Languages.{Then, Map, Nothing, Plain, NoSpelling}
use Rattle.asn_rules.specs.OctetStrings.{Character, BitsLength, UnusedBits, PackedBits}
use Rattle.asn_rules.specs.declared.stop.Stop.{Stop}
use Rattle.asn_rules.specs.declared.stop.Stop.TheVariants as stop
use Rattle.asn_walk.proofs.Listing.{Appends}
use Rattle.asn_walk.specs.Ahead.{Ahead, items}
use Rattle.asn_walk.specs.Sizes.{Count}
use Rattle.asn_walk_feed.specs.Octets.{OctetCoding, NoFirst}
use Rattle.asn_walk_feed.specs.OpenFields.{FieldCoding}
use Rattle.asn_walk_feed.specs.Strings.{IsStringOf, IsNoString}
use Rattle.asn_oer.specs.Walk.{oer_coding}

-- how many items there are, where none of them stands in front of the others
abbrev pub InFront : (ℕ → List Chunk → Type 0) → List ℕ × Ahead → List Chunk → Type 0
InFront C = NoFirst (Map items C)

-- octets of any number that a field may hold, after their length ("length determinant")
abbrev pub any_octets : OctetCoding
any_octets = record { start = InFront (OctetLength (Between 0 max_len)); octet = OneOctet }

-- ---- BIT STRING ("encoding of bit string types")

-- a length and the number of unused bits, which is the first of the octets
abbrev pub unused_first : ℕ × ℕ → List ℕ × Ahead
unused_first p = (p.1 ∷ [], items (p.0 - 1))

abbrev pub AfterUnused : (ℕ → Type 0) → List ℕ × Ahead → List Chunk → Type 0
AfterUnused S = Map unused_first (Then (OctetLength (BitsLength S)) (λ l. Plain (InDigits 256 1 (UnusedBits S l))))

-- as many octets as the bits fill, or, where the size leaves more than one count, after these two
abbrev pub BitsStart : SizeRange → List ℕ × Ahead → List Chunk → Type 0
BitsStart s =
    elim (is_fixed_size s) [ true ↦ InFront (Nothing (filled_octets s.low)) | false ↦ AfterUnused (FitsLength s) ]

abbrev pub bit_octets_of : SizeRange → OctetCoding
bit_octets_of s = record { start = BitsStart s; octet = OneOctet }

-- ---- all strings

-- items of a size, after their length where the size leaves more than one count
abbrev pub items_of_size : SizeRange → (ℕ → List Chunk → Type 0) → OctetCoding
items_of_size s L = record { start = InFront (Count s); octet = L }

-- an octet of bits, an octet, a character, and an octet of a UTF8String
abbrev pub string_items : Shape → OctetCoding
string_items (bit_string s) = bit_octets_of s
string_items (octet_string s) = items_of_size s OneOctet
string_items (restricted k s) = items_of_size s (Character k)
string_items _ = any_octets

abbrev pub oer_parts : FieldCoding
oer_parts = record { open_type = any_octets; string = string_items }

-- this many octets are taken, and are put after those that were there
abbrev pub TakesOctets : (ℕ → List Chunk → Type 0) → ℕ → List ℕ → List ℕ → List ℕ → List ℕ → Type 0
TakesOctets L n before after old new = Appends octet_fields L n before after (packed old) (packed new)

-- ---- what is told of items, of which this many units follow the last

-- they are the bits
abbrev pub AreBitsOf : SizeRange → List ℕ → Datum → Type 0
AreBitsOf s os v = IsStringOf oer_coding oer_parts (bit_string s) os v

abbrev pub AreNoBits : SizeRange → List ℕ → ℕ → Stop → Type 0
AreNoBits s os left why = IsNoString oer_coding oer_parts (bit_string s) os left why

-- they are the text
abbrev pub AreText : List ℕ → List ℕ → Type 0
AreText os text = IsStringOf oer_coding oer_parts utf8_string os (unicode text)

abbrev pub AreNoText : List ℕ → ℕ → Stop → Type 0
AreNoText os left why = IsNoString oer_coding oer_parts utf8_string os left why

-- these octets are not n bits before zeros, which is told at their end
abbrev pub RefusedAtEnd : ℕ → List ℕ → ℕ → Stop → Type 0
RefusedAtEnd n os left (stop.Refused m why) = (m ≡ left) × NoSpelling octet_fields (PackedBits n) os
RefusedAtEnd n os left stop.Short = ⊥
RefusedAtEnd n os left stop.Memory = ⊤
