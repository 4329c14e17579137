-- What a writer has taken, and what waits before it.
use Rattle.std.specs.Prelude.{◌≡◌, ◌<◌, ◌-◌, ◌^◌, ◌++◌, ℕ, min, Bool, true, false, List, length}
use Rattle.std.specs.List.{AllByRecursion}
use Rattle.std.specs.Io.KnownBytes.{Appends}
use Rattle.asn_rules.specs.Faults.{Rose}
use Rattle.asn_rules.specs.Held.{Held}
use Rattle.asn_bits.specs.Numbers.{unpacked}

-- The bits `coming` are still to be written, and with what was written since the start they are `all`. After a fault
-- what was written is a beginning of `all`, and nothing is written any more.
pub record Delivers (start now : Held) (sent : ℕ) (failed : Bool) (coming all : List ℕ) : Type 0 where
  -- what was written since the start, and what is not written of all
  pub octets : List ℕ
  pub are_octets : AllByRecursion (λ o. o < 256) octets
  pub rest : List ℕ
  pub appended : Appends start.octets now.octets octets
  pub many : sent ≡ min (length octets) (2 ^ 64 - 1)
  pub whole : unpacked octets ++ rest ≡ all
  pub goes_on : failed ≡ false → rest ≡ coming
  pub same : failed ≡ false → now.faults ≡ start.faults
  pub fault : failed ≡ true → Rose start.faults now.faults
  pub through : now.through ≡ start.through
