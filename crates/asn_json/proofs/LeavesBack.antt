-- What is written of values without parts is read back.
use Rattle.std.proofs.Common.{◌≡◌, ◌<◌, ◌==◌, ℕ, zero, suc, ℤ, pos, negsuc, Bool, true, false, IsTrue, List, [], ◌∷◌, map, Some, refl, ap, arith}
use Rattle.std.specs.List.{AllByRecursion, list_all}
use Rattle.std.specs.Str.{IsAscii, encode_utf8_all}
use Rattle.std.proofs.lemmas.Str.{encodes-IsAscii}
use Rattle.std.proofs.lemmas.Str.Ascii.{IsAscii-nil, IsAscii-cons}
use Rattle.hex.specs.Hex.{IsBytes}
use Rattle.serde_json.specs.Find.{as_integer, of_integer}
use Rattle.asn_values.specs.Shape.{Alphabet, ia5, numeric, visible}
use Rattle.asn_values.specs.Fits.{is_of_kind}
use Rattle.asn_json.specs.Written.{bit_character}
use Rattle.asn_json.specs.Shown.{is_bit_character, bits_of}

-- integers
pub integer_back : (z : ℤ) → as_integer (of_integer z) ≡ Some z
integer_back (pos n) = refl
integer_back (negsuc n) = refl

-- bits
all_bits : (bs : List Bool) → list_all is_bit_character (map bit_character bs) ≡ true
all_bits [] = refl
all_bits (true ∷ bs) = all_bits bs
all_bits (false ∷ bs) = all_bits bs

same_bits : (bs : List Bool) → map (λ c. c == 49) (map bit_character bs) ≡ bs
same_bits [] = refl
same_bits (true ∷ bs) = ap (λ cs. true ∷ cs) (same_bits bs)
same_bits (false ∷ bs) = ap (λ cs. false ∷ cs) (same_bits bs)

pub bits_back : (bs : List Bool) → bits_of (map bit_character bs) ≡ Some bs
bits_back bs = rw (all_bits bs, same_bits bs) refl

-- octets
pub octets_are_bytes : (os : List ℕ) → AllByRecursion (λ o. o < 256) os → IsBytes os
octets_are_bytes [] h i = omega arith
octets_are_bytes (o ∷ os) h zero = h.0
octets_are_bytes (o ∷ os) h (suc i) = octets_are_bytes os h.1 i

-- characters, which have codes below 128
is_ascii : (k : Alphabet) (c : ℕ) → IsTrue (is_of_kind k c) → c < 128
is_ascii ia5 c h = grind arith
is_ascii numeric c h = grind arith
is_ascii visible c h = grind arith

pub all_ascii : (k : Alphabet) (cs : List ℕ) → AllByRecursion (λ c. IsTrue (is_of_kind k c)) cs → IsAscii cs
all_ascii k [] h = IsAscii-nil
all_ascii k (c ∷ cs) h = IsAscii-cons c cs (is_ascii k c h.0) (all_ascii k cs h.1)

pub characters_back : (k : Alphabet) (cs : List ℕ) → AllByRecursion (λ c. IsTrue (is_of_kind k c)) cs → encode_utf8_all cs ≡ cs
characters_back k cs h = encodes-IsAscii cs (all_ascii k cs h)
