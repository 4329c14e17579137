-- What was written to a writer.
use Rattle.std.specs.Prelude.{◌≡◌, ◌<◌, ◌-◌, ◌^◌, ◌++◌, ℕ, min, List, length}
use Rattle.std.specs.List.{AllByRecursion}
use Rattle.std.specs.Io.KnownBytes.{Appends}
use Rattle.asn_bits.specs.Numbers.{unpacked}
use Rattle.asn_rules.specs.Faults.{Rose}
use Rattle.asn_rules.specs.Held.{Held}

-- octets whose bits are these were written, and there was no fault
pub record Wrote (old new : Held) (bits : List ℕ) : Type 0 where
  pub octets : List ℕ
  pub are_octets : AllByRecursion (λ o. o < 256) octets
  pub appended : Appends old.octets new.octets octets
  pub whole : unpacked octets ≡ bits
  pub faults : new.faults ≡ old.faults
  pub through : new.through ≡ old.through

-- the first octets of them were written, and then there was a fault
pub record Broke (old new : Held) (sent : ℕ) (bits : List ℕ) : Type 0 where
  pub octets : List ℕ
  pub are_octets : AllByRecursion (λ o. o < 256) octets
  pub rest : List ℕ
  pub appended : Appends old.octets new.octets octets
  pub begins : unpacked octets ++ rest ≡ bits
  pub many : sent ≡ min (length octets) (2 ^ 64 - 1)
  pub fault : Rose old.faults new.faults
  pub through : new.through ≡ old.through
