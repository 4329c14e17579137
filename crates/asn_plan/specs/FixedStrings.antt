-- Strings of one length, and what is worked out of them.
use Rattle.std.specs.Prelude.{◌≡◌, ◌≤◌, ◌+◌, ◌-◌, ◌*◌, ◌/◌, ◌%◌, ◌^◌, ℕ, Bool, true, false, map}
use Rattle.asn_values.specs.Datum.{Datum, bit_list, octet_list}
use Rattle.asn_values.specs.Shape.{Shape, bit_string, octet_string}
use Rattle.asn_bits.specs.Numbers.{bits, octets}
use Rattle.asn_bits.specs.Sink.{bit_of}
use Rattle.asn_walk.specs.AtOnce.{IsOnlyLength}
use Rattle.asn_plan.specs.declared.fixed.FixedString.{FixedString}

-- What stands here of the octets of the strings by OER: where there is an extension mark, a length and the count of unused
-- bits; so many bits of their own; and zeros that fill up the last octet ("encoding of bit string types").
pub record IsInOctets (f : FixedString) (marked : Bool) (own : ℕ) : Type 0 where
  pub few : own ≤ 62
  pub own_bits : f.own_bits ≡ own
  pub unused : f.unused ≡ (8 - own % 8) % 8
  pub head_bits : f.head_bits ≡ 16 * bit_of marked
  pub head : marked ≡ true → f.head ≡ 256 * (1 + (own + 7) / 8) + f.unused

-- the type is a BIT STRING, or an OCTET STRING without an extension mark, with one length in the root, and what stands
-- here was worked out of its size
abbrev pub IsFixedString : FixedString → Shape → Type 0
IsFixedString f (bit_string s) = (f.of_octets ≡ false) × IsOnlyLength s f.length
    × (f.bits ≡ bit_of s.extensible + f.length) × (f.highest + 1 ≡ 2 ^ f.length) × IsInOctets f s.extensible f.length
IsFixedString f (octet_string s) = (f.of_octets ≡ true) × IsOnlyLength s f.length × (s.extensible ≡ false)
    × (f.bits ≡ 8 * f.length) × (f.highest + 1 ≡ 2 ^ (8 * f.length)) × IsInOctets f false (8 * f.length)
IsFixedString f _ = ⊥

-- the string whose bits are those of the number
abbrev pub IsStringOf : FixedString → ℕ → Datum → Type 0
IsStringOf f n (bit_list bs) = (f.of_octets ≡ false) × (map bit_of bs ≡ bits f.length n)
IsStringOf f n (octet_list os) = (f.of_octets ≡ true) × (os ≡ octets f.length n)
IsStringOf f n _ = ⊥
