-- How many octets of two's complement hold the integers between two bounds: as many as hold twice the one that is farthest
-- from zero.
use Rattle.std.proofs.Common.{◌≡◌, ◌<◌, ◌-◌, ◌*◌, ◌^◌, ◌≤ℤ◌, ◌<ℤ◌, ◌-ℤ◌, ◌*ℤ◌, ◌⊎◌, ◌∙◌, ℕ, ℤ, pos, negsuc, Bool, true, false, ◌&&◌, inl, inr, refl, arith}
use Rattle.std.proofs.lemmas.Bool.{and_from, and_left, and_right, cases_cond}
use Rattle.std.proofs.lemmas.Int.{ints}
use Rattle.std.specs.Int.{int_max}
use Rattle.std.specs.Int.RustNames.{int_le, int_lt}
use mir.Syntax.{w128}
use mir.Val.{to_z, of_z}
use Rattle.asn_plan.specs.FixedSizes.{unsigned_octets, signed_size}

-- the number that is farthest from zero
pub farthest_is : (high below k m : ℤ) → k ≡ int_max high below → m ≡ int_max k (pos 0) → (m ≡ high) ⊎ ((m ≡ below) ⊎ (m ≡ pos 0))
farthest_is high below k m e f =
    elim (cases_cond (int_lt (pos 0) k) k (pos 0) (int_max k (pos 0)) refl) [
      | inl g ↦ elim (cases_cond (int_lt below high) high below (int_max high below) refl) [
        | inl h ↦ inl (f ∙ g ∙ e ∙ h)
        | inr h ↦ inr (inl (f ∙ g ∙ e ∙ h))
      ]
      | inr g ↦ inr (inr (f ∙ g))
    ]

-- what the test of the order says
pub lt_of_test : (a b : ℤ) → int_lt a b ≡ true → a <ℤ b
lt_of_test a b e = grind (arith, ints)

-- twice that number keeps its value in 128 bits
pub twice_kept : (m : ℤ) → pos 0 ≤ℤ m → m ≤ℤ pos 9223372036854775807 → to_z w128 (of_z w128 (pos 2 *ℤ m)) ≡ (pos 2 *ℤ m)
twice_kept m p q = omega (arith, ints)

-- numbers between both bounds have as many octets as twice that number from 0 on
module _ (low high below m : ℤ) (is : below ≡ (negsuc 0 -ℤ low)) (above_high : high ≤ℤ m) (above_below : below ≤ℤ m) (least : (m ≡ high) ⊎ ((m ≡ below) ⊎ (m ≡ pos 0))) where
  abbrev twice : ℤ
  twice = pos 2 *ℤ m

  tests : (n : ℕ) → 0 < n → (int_le (negsuc (n - 1)) low && int_lt high (pos n)) ≡ int_lt twice (pos (2 * n))
  tests n h = go (int_lt twice (pos (2 * n))) refl
    where
      go : (b : Bool) → int_lt twice (pos (2 * n)) ≡ b → (int_le (negsuc (n - 1)) low && int_lt high (pos n)) ≡ b
      go true e = and_from (int_le (negsuc (n - 1)) low) (int_lt high (pos n)) (grind (arith, ints)) (grind (arith, ints))
      go false e = elim least [
        | inl a ↦ and_right (int_le (negsuc (n - 1)) low) (int_lt high (pos n)) (grind (arith, ints))
        | inr w ↦ elim w [
          | inl a ↦ and_left (int_le (negsuc (n - 1)) low) (int_lt high (pos n)) (grind (arith, ints))
          | inr a ↦ absurd (grind (arith, ints))
        ]
      ]

  pub signed_is_twice : signed_size low high ≡ unsigned_octets (pos 2 *ℤ m)
  signed_is_twice = go (int_lt twice (pos (2 ^ 8))) (int_lt twice (pos (2 ^ 16))) (int_lt twice (pos (2 ^ 32))) (int_lt twice (pos (2 ^ 64))) refl refl refl refl
    where
      go : (a b c d : Bool) → int_lt twice (pos (2 ^ 8)) ≡ a → int_lt twice (pos (2 ^ 16)) ≡ b → int_lt twice (pos (2 ^ 32)) ≡ c → int_lt twice (pos (2 ^ 64)) ≡ d → signed_size low high ≡ unsigned_octets twice
      go true b c d ea eb ec ed = rw (ea, tests 128 (omega arith) ∙ ea, signed_size, unsigned_octets) refl
      go false true c d ea eb ec ed = rw (ea, eb, tests 128 (omega arith) ∙ ea, tests 32768 (omega arith) ∙ eb, signed_size, unsigned_octets) refl
      go false false true d ea eb ec ed = rw (ea, eb, ec, tests 128 (omega arith) ∙ ea, tests 32768 (omega arith) ∙ eb, tests 2147483648 (omega arith) ∙ ec, signed_size, unsigned_octets) refl
      go false false false true ea eb ec ed = rw (ea, eb, ec, ed, tests 128 (omega arith) ∙ ea, tests 32768 (omega arith) ∙ eb, tests 2147483648 (omega arith) ∙ ec, tests 9223372036854775808 (omega arith) ∙ ed, signed_size, unsigned_octets) refl
      go false false false false ea eb ec ed = rw (ea, eb, ec, ed, tests 128 (omega arith) ∙ ea, tests 32768 (omega arith) ∙ eb, tests 2147483648 (omega arith) ∙ ec, tests 9223372036854775808 (omega arith) ∙ ed, signed_size, unsigned_octets) refl
