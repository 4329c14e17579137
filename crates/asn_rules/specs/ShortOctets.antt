-- Octets after their count in one octet.
use Rattle.std.specs.Prelude.{◌≡◌, ◌≤◌, ◌<◌, ℕ, List, ◌++◌, length, take}
use Rattle.std.specs.List.{AllByRecursion}
use Rattle.asn_bits.specs.Numbers.{bits, unpacked}

-- from 1 to 127 octets, the first n of the row: the bits before are their count in 8 bits, they, and the bits after
pub record ShortOctets (n : ℕ) (row before after : List ℕ) : Type 0 where
  pub within : n ≤ length row
  pub some : 1 ≤ n
  pub few : n < 128
  pub each : AllByRecursion (λ o. o < 256) (take n row)
  pub spelt : before ≡ bits 8 n ++ (unpacked (take n row) ++ after)
