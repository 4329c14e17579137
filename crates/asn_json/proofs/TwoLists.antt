-- What stands at an index of two lists, one after the other.
use Rattle.std.proofs.Common.{◌≡◌, ◌<◌, ◌≤◌, ◌-◌, ℕ, zero, suc, List, [], ◌∷◌, ◌++◌, length, slice_get, refl, ap, arith}
use native.Mathlib.Numerals.{unary_clauses}

-- the first and the others
pub first_part : {A : Type 0} (xs ys : List A) (i : ℕ) → i < length xs → slice_get (xs ++ ys) i ≡ slice_get xs i
first_part [] ys i h = absurd (omega arith)
first_part (x ∷ xs) ys zero h = refl
first_part (x ∷ xs) ys (suc i) h = first_part xs ys i (omega arith)

pub second_part : {A : Type 0} (xs ys : List A) (i : ℕ) → length xs ≤ i → slice_get (xs ++ ys) i ≡ slice_get ys (i - length xs)
second_part [] ys i h = ap (λ k. slice_get ys k) (omega arith)
second_part (x ∷ xs) ys zero h = absurd (omega arith)
second_part (x ∷ xs) ys (suc i) h = simp unary_clauses (second_part xs ys i (omega arith))
