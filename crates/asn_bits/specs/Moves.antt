-- Whole octets moved to and from any bit.
use Rattle.std.specs.Prelude.{◌≡◌, ◌<◌, ℕ, List, ◌++◌, length, drop}
use Rattle.std.specs.List.{AllByRecursion}
use Rattle.asn_bits.specs.Numbers.{bits, unpacked}

-- octets appended to old: their bits, and the last c of w, are the last c of p and those of the octets from
pub record Shifted (old new from : List ℕ) (c p w : ℕ) : Type 0 where
  pub octets : List ℕ
  pub added : new ≡ old ++ octets
  pub count : length octets ≡ length from
  pub each : AllByRecursion (λ o. o < 256) octets
  pub same : unpacked octets ++ bits c w ≡ bits c p ++ unpacked from

-- n octets, taken from the front of the bits before and appended to old
pub record Taken (n : ℕ) (before after old new : List ℕ) : Type 0 where
  pub octets : List ℕ
  pub added : new ≡ old ++ octets
  pub count : length octets ≡ n
  pub each : AllByRecursion (λ o. o < 256) octets
  pub taken : before ≡ unpacked octets ++ after

-- n octets, read from bit `offset` of the octets on and appended to old
abbrev pub TakenFrom : ℕ → ℕ → List ℕ → List ℕ → List ℕ → Type 0
TakenFrom offset n os old new = Taken n (drop offset (unpacked os)) (drop offset (unpacked (drop n os))) old new
