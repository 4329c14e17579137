-- Parts of values that stand at the front of bits.
use Rattle.std.specs.Prelude.{◌≡◌, ◌<◌, ◌^◌, ℕ, Bool, true, false, List, ◌∷◌, ◌++◌, length, map, Option, Some}
use Rattle.std.specs.List.{AllByRecursion}
use Rattle.asn_values.specs.Datum.{Datum, bit_list, octet_list}
use Rattle.asn_values.specs.Shape.{SizeRange}
use Rattle.asn_bits.specs.Numbers.{bits, unpacked}
use Rattle.asn_bits.specs.Sink.{bit_of}
use Rattle.asn_rules.specs.Components.{extension_bit}

-- the extension bit of a type with an extension mark, which is 0 where no addition is listed, and that many presence
-- bits after it
pub record MarkedFirst (count : ℕ) (additions : Option ℕ) (p : Bool × ℕ) (old new : List ℕ) : Type 0 where
  pub listed : ℕ
  pub mark : additions ≡ Some listed
  pub some : p.0 ≡ true → 0 < listed
  pub fits : p.1 < 2 ^ count
  pub split : old ≡ bit_of p.0 ∷ (bits count p.1 ++ new)

-- the only length in the root of a size
pub record IsOnlyLength (s : SizeRange) (n : ℕ) : Type 0 where
  pub low : s.low ≡ n
  pub high : s.high ≡ Some n

-- the extension bit 0, where there is a mark, and the bits of a BIT STRING of the only length, which is below 65,536
pub record BitsFirst (s : SizeRange) (d : Datum) (old new : List ℕ) : Type 0 where
  pub truths : List Bool
  pub is : d ≡ bit_list truths
  pub only : IsOnlyLength s (length truths)
  pub few : length truths < 65536
  pub split : old ≡ extension_bit s.extensible false ++ (map bit_of truths ++ new)

-- the octets of an OCTET STRING of the only length, which is below 65,536, without an extension mark
pub record OctetsFirst (s : SizeRange) (d : Datum) (old new : List ℕ) : Type 0 where
  pub octets : List ℕ
  pub is : d ≡ octet_list octets
  pub only : IsOnlyLength s (length octets)
  pub few : length octets < 65536
  pub unmarked : s.extensible ≡ false
  pub each : AllByRecursion (λ o. o < 256) octets
  pub split : old ≡ unpacked octets ++ new
