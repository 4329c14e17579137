-- What is left of the units where so many were taken, as ticks count them.
use Rattle.std.proofs.Common.{◌≡◌, ◌≤◌, ◌<◌, ◌+◌, ◌-◌, ℕ, arith}

-- no more units are left after a part than before it
pub fewer_left : {i j x y : ℕ} → i ≤ j → j + x ≡ i + y → x ≤ y
fewer_left h e = omega (arith, h, e)

-- a count that is the same is below the same bound
pub still_below : {n k m : ℕ} → n ≡ k → k < m → n < m
still_below e h = rw e h

-- where so many are left, the next index is one of the list
pub next_inside : {l n : ℕ} → l ≤ n → 0 < l → n - l < n
next_inside h k = omega (arith, h, k)

-- nothing lies less deep than what has no levels
pub no_levels : (n : ℕ) → 0 ≤ n
no_levels n = omega arith

-- what was taken is at most what there was
pub taken_at_most : {t m : ℕ} (x : ℕ) → t + x ≡ m → t ≤ m
taken_at_most x e = omega (arith, e)
