-- Numbers in this many octets, whose count stands before them in an octet (X.691, "semi-constrained whole
-- number" and "unconstrained whole number"; X.696, "encoding of integer types"; the count is below 128).
use Rattle.std.specs.Prelude.{◌≡◌, ◌-◌, ◌*◌, ◌^◌, ◌<◌, ℕ, ℤ, pos, negsuc, true, false, List, nat_lt}
use Rattle.asn_bits.specs.Numbers.{octet_count, signed_octet_count}
use Rattle.asn_rules.specs.Chunks.{Chunk}
use Rattle.asn_rules.specs.Languages.{Then, Plain}
use Rattle.asn_bits.specs.Sets.{InDigits}

-- some number has this many octets, of which T says which numbers they may hold
pub record SomeOf (T : ℕ → ℕ → Type 0) (k : ℕ) : Type 0 where
  pub few : k < 128
  pub number : ℕ
  pub member : T k number
  pub fits : number < 256 ^ k

-- a count of octets in an octet, and a number in this many octets that T admits there; an octet is h digits of
-- the base, which is 8 bits in PER and 1 octet in OER
abbrev pub Counted : ℕ → ℕ → (ℕ → ℕ → Type 0) → ℕ × ℕ → List Chunk → Type 0
Counted base h T = Then (Plain (InDigits base h (SomeOf T))) (λ k. Plain (InDigits base (h * k) (T k)))

-- the number without its count
abbrev pub number_of : ℕ × ℕ → ℕ
number_of p = p.1

-- the number is of the set, and this is the least count of octets that holds it
pub record Least (S : ℕ → Type 0) (k n : ℕ) : Type 0 where
  pub member : S n
  pub count : octet_count n ≡ k

-- the number that k octets of two's complement stand for
abbrev pub signed_number : ℕ × ℕ → ℤ
signed_number p = elim (nat_lt p.1 (2 ^ (8 * p.0 - 1))) [ true ↦ pos p.1 | false ↦ negsuc (256 ^ p.0 - 1 - p.1) ]

-- the octets stand for a number of the set, and this is the least count that holds it
pub record LeastSigned (S : ℤ → Type 0) (k n : ℕ) : Type 0 where
  pub member : S (signed_number (k, n))
  pub count : signed_octet_count (signed_number (k, n)) ≡ k
  pub fits : n < 256 ^ k
