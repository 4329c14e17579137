-- Numbers of more than 64 bits, and those that have no more.
use Rattle.std.proofs.Common.{◌≤◌, ◌<◌, ◌^◌, ℕ, Option, Some, None, arith}
use Rattle.std.specs.Prelude.{IfSome}
use Rattle.asn_bits.specs.Sets.{Meets}
use Rattle.asn_rules.specs.NumberSets.{Admits, up_to}

-- a number that is left out has 64 bits, where the highest has
pub narrow_one : (e : Option ℕ) (top : ℕ) → IfSome e (λ x. x ≤ top) → top < 2 ^ 64 → IfSome e (λ n. n < 2 ^ 64)
narrow_one None top h few = h
narrow_one (Some x) top h few = omega (arith, h, few)

-- and so has some number of the set
pub narrow_meets : (top : ℕ) (e : Option ℕ) → top < 2 ^ 64 → Meets (λ n. Admits (up_to top e) n) 0 72 → Meets (λ n. Admits (up_to top e) n) 0 64
narrow_meets top e few m = record { number = m.number; member = m.member; least = omega arith; below = omega (arith, m.member.1, few) }
