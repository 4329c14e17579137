-- A number in the first octets of units.
use Rattle.std.proofs.Common.{◌≡◌, ◌≤◌, ◌*◌, ◌++◌, ℕ, List, length, length-append, drop, ap, arith}
use Rattle.asn_bits.specs.Numbers.{bits}
use Rattle.asn_bits.proofs.Octets.{length-digits}

-- its octets are there
pub octets_there : (k n : ℕ) (us : List ℕ) → us ≡ bits (8 * k) n ++ drop (8 * k) us → 8 * k ≤ length us
octets_there k n us e = omega (arith, ap length e, length-append (bits (8 * k) n) (drop (8 * k) us), length-digits 2 (8 * k) n)
