-- An INTEGER with two bounds, with what is worked out of them.
use Rattle.std.specs.Prelude.{◌≡◌, ◌+◌, ◌-◌, ◌*◌, ◌^◌, ◌≤◌, ◌<◌, ℕ, suc, ℤ, pos, negsuc, false, Some}
use Rattle.asn_values.specs.Profile.{InProfile}
use Rattle.asn_values.specs.Shape.{Shape, integer}
use Rattle.asn_bits.specs.Numbers.{above, width}
use Rattle.asn_bits.specs.Sink.{bit_of}
use Rattle.asn_plan.specs.FixedSizes.{fixed_size}
use Rattle.asn_plan.specs.declared.ranged.Ranged.{Ranged}

-- INTEGER (low..high) or INTEGER (low..high, ...)
abbrev pub ranged : Ranged → Shape
ranged r = integer (record { low = Some r.low; high = Some r.high; extensible = r.marked })

-- what k octets hold of an integer, which may be negative
abbrev pub held_in : ℕ → ℤ → ℕ
held_in k (pos n) = n
held_in k (negsuc n) = 256 ^ k - 1 - n

-- the numbers have so many octets by OER, the highest number of these, and what they hold of the lowest one
pub record InOctets (r : Ranged) : Type 0 where
  pub unmarked : r.marked ≡ false
  pub size : fixed_size r.low r.high ≡ Some r.octets
  pub mask : r.octet_mask + 1 ≡ 2 ^ (8 * r.octets)
  pub least : r.least ≡ held_in r.octets r.low

-- the type is of the profile, and what stands beside its bounds was worked out of them: offsets from the low bound take
-- so many bits, no more than 64 with the extension bit, and numbers so many octets, where it is one count for all
pub record IsRanged (r : Ranged) : Type 0 where
  pub of_profile : InProfile (ranged r)
  pub highest : r.highest ≡ above r.low r.high
  pub bits : r.bits ≡ bit_of r.marked + width (suc (above r.low r.high))
  pub few : r.bits ≤ 64
  pub mask : r.mask + 1 ≡ 2 ^ r.bits
  pub octets : 0 < r.octets → InOctets r
