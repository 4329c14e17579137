-- Sets of numbers, and the test of intervals: some number of a set begins with the digits read so far.
use Rattle.std.proofs.Common.{◌≡◌, ◌⊎◌, ℕ, zero, suc, ◌+◌, ◌*◌, ◌/◌, ◌^◌, ◌↔◌, ◌<◌, ◌≤◌, inl, inr, ⊎_elim, List, [], ◌∷◌, ◌++◌, length, drop, get_or, arith}
use Rattle.std.proofs.Math.Nat.{pow-zero, div-lt_iff_lt-mul, le-div_iff_mul-le}
use Rattle.std.proofs.lemmas.Nat.{pow_pos}
use Rattle.std.proofs.lemmas.Bool.{cases_lt}
use Rattle.asn_bits.specs.Numbers.{digits}
use Rattle.asn_bits.proofs.Weights.{digits_are}
use Rattle.asn_bits.specs.Sets.{InDigits, MeetsIn, Between, Among, AreOrdered, Touches}

-- a number of the set that fits has its digits
pub set_spelt : (base k : ℕ) {S : ℕ → Type 0} (n : ℕ) → S n → n < base ^ k → InDigits base k S n (digits base k n)
set_spelt base k n m w = record { digits = digits_are base k n w; member = m }

-- some number of the set fits the digits
pub set_meets : (base k : ℕ) {S : ℕ → Type 0} (n : ℕ) → S n → n < base ^ k → MeetsIn base S 0 k
set_meets base k n m w = record { number = n; member = m; least = omega arith; below = omega arith }

-- with no bits after it a number that meets the set is one of it
pub meets_member : {S : ℕ → Type 0} {base p : ℕ} → MeetsIn base S p 0 → S p
meets_member {S} {base} {p} m =
    let l : p * 1 ≤ m.number = rw pow-zero at m.least in
    let b : m.number < (p + 1) * 1 = rw pow-zero at m.below in
    let e : m.number ≡ p = omega (arith, l, b) in
    rw e at m.member

-- a range that has a number is not empty
some_room : (p q n : ℕ) → n < (p + 1) * q → 0 < q
some_room p zero n h = absurd (omega (arith, h))
some_room p (suc q) n h = omega arith

-- The test of the intervals decides it.
pub touches_meets : {base p r : ℕ} (is : List (ℕ × ℕ)) → AreOrdered is → Touches base is p r → MeetsIn base (Among is) p r
touches_meets [] o h = absurd h
touches_meets {base} {p} {r} (i ∷ is) o (inl h) = ⊎_elim
    (λ e. at (p * base ^ r) (omega arith) h.0 (omega arith) (omega (arith, some_room p (base ^ r) i.0 h.1)))
    (λ e. at i.0 (omega arith) o.0 e h.1)
    (cases_lt i.0 (p * base ^ r))
  where
    at : (n : ℕ) → i.0 ≤ n → n ≤ i.1 → p * base ^ r ≤ n → n < (p + 1) * base ^ r → MeetsIn base (Among (i ∷ is)) p r
    at n a b l m = record { number = n; member = inl (a, b); least = l; below = m }
touches_meets (i ∷ is) o (inr h) =
    let m = touches_meets is o.1 h in
    record { number = m.number; member = inr m.member; least = m.least; below = m.below }

-- a number of an interval that begins so
among_touches : (base p r : ℕ) (is : List (ℕ × ℕ)) (n : ℕ) → Among is n → p * base ^ r ≤ n → n < (p + 1) * base ^ r → Touches base is p r
among_touches base p r [] n h l m = absurd h
among_touches base p r (i ∷ is) n (inl h) l m = inl (omega (arith, h.1), omega (arith, h.0))
among_touches base p r (i ∷ is) n (inr h) l m = inr (among_touches base p r is n h l m)

-- where some number of the intervals begins so, the test says so
pub meets_touches : {base p r : ℕ} (is : List (ℕ × ℕ)) → MeetsIn base (Among is) p r → Touches base is p r
meets_touches {base} {p} {r} is m = among_touches base p r is m.number m.member m.least m.below

-- one interval more
pub ordered_more : (is : List (ℕ × ℕ)) (low high : ℕ) → AreOrdered is → low ≤ high → AreOrdered (is ++ (low, high) ∷ [])
ordered_more [] low high o h = (h, tt)
ordered_more (i ∷ is) low high o h = (o.0, ordered_more is low high o.1 h)

-- ends without their last r bits, beside a number of the bits before them
pub low_shifted : (low p r : ℕ) → (low / 2 ^ r ≤ p) ↔ (low < (p + 1) * 2 ^ r)
low_shifted low p r =
    let iff : (low / 2 ^ r < p + 1) ↔ (low < (p + 1) * 2 ^ r) = div-lt_iff_lt-mul (pow_pos r) in
    (λ h. iff.0 (omega (arith, h)), λ h. let l : low / 2 ^ r < p + 1 = iff.1 h in omega (arith, l))

pub high_shifted : (high p r : ℕ) → (p ≤ high / 2 ^ r) ↔ (p * 2 ^ r ≤ high)
high_shifted high p r = le-div_iff_mul-le (pow_pos r)

-- an interval that begins so is one of the intervals
pub touches_at : (base p r : ℕ) (is : List (ℕ × ℕ)) (k : ℕ) (d : ℕ × ℕ) → k < length is → p * base ^ r ≤ (get_or is k d).1 → (get_or is k d).0 < (p + 1) * base ^ r → Touches base is p r
touches_at base p r [] k d h l m = absurd (omega arith)
touches_at base p r (i ∷ is) zero d h l m = inl (l, m)
touches_at base p r (i ∷ is) (suc k) d h l m = inr (touches_at base p r is k d (omega arith) l m)

-- the next interval does not begin so: then one after it does
pub touches_after : (base p r : ℕ) (is : List (ℕ × ℕ)) (k : ℕ) (d : ℕ × ℕ) → k < length is → Touches base (drop k is) p r → (p * base ^ r ≤ (get_or is k d).1 → (get_or is k d).0 < (p + 1) * base ^ r → ⊥) → Touches base (drop (k + 1) is) p r
touches_after base p r [] k d h t f = absurd (omega arith)
touches_after base p r (i ∷ is) zero d h (inl t) f = absurd (f t.0 t.1)
touches_after base p r (i ∷ is) zero d h (inr t) f = t
touches_after base p r (i ∷ is) (suc k) d h t f = next (touches_after base p r is k d (omega arith) t f)
  where
    next : Touches base (drop (k + 1) is) p r → Touches base (drop (suc k + 1) (i ∷ is)) p r
    next x =
        let e : suc k + 1 ≡ suc (k + 1) = omega arith in
        rw e x

-- no interval is left
pub touches_none : (base p r : ℕ) (is : List (ℕ × ℕ)) (k : ℕ) → length is ≤ k → Touches base (drop k is) p r → ⊥
touches_none base p r [] zero h t = t
touches_none base p r [] (suc k) h t = t
touches_none base p r (i ∷ is) zero h t = omega arith
touches_none base p r (i ∷ is) (suc k) h t = touches_none base p r is k (omega arith) t

-- a number of the set meets it in all its digits
pub member_meets : {base : ℕ} {S : ℕ → Type 0} (n : ℕ) → S n → MeetsIn base S n 0
member_meets {base} {S} n m =
    let l : n * base ^ 0 ≤ n = rw (pow-zero base) (omega arith) in
    let b : n < (n + 1) * base ^ 0 = rw (pow-zero base) (omega arith) in
    record { number = n; member = m; least = l; below = b }

-- ---- the numbers from low to high

-- some number from low to high begins so where the test says so
pub between_meets : {base low high p r : ℕ} → low ≤ high → p * base ^ r ≤ high → low < (p + 1) * base ^ r → MeetsIn base (Between low high) p r
between_meets {base} {low} {high} {p} {r} o h l = ⊎_elim
    (λ e. at (p * base ^ r) (omega arith) h (omega arith) (omega (arith, some_room p (base ^ r) low l)))
    (λ e. at low (omega arith) o e l)
    (cases_lt low (p * base ^ r))
  where
    at : (n : ℕ) → low ≤ n → n ≤ high → p * base ^ r ≤ n → n < (p + 1) * base ^ r → MeetsIn base (Between low high) p r
    at n a b l m = record { number = n; member = (a, b); least = l; below = m }

-- and the other way round
pub meets_between : {base low high p r : ℕ} → MeetsIn base (Between low high) p r → (p * base ^ r ≤ high) × (low < (p + 1) * base ^ r)
meets_between m = (omega (arith, m.least, m.member.1), omega (arith, m.below, m.member.0))

-- some number from low to high fits the digits
pub between_starts : {base low high k : ℕ} → low ≤ high → high < base ^ k → MeetsIn base (Between low high) 0 k
between_starts {base} {low} {high} {k} o h = set_meets base k low (omega arith, o) (omega arith)

-- ---- one interval more

pub among_there : (is : List (ℕ × ℕ)) (low high n : ℕ) → Among (is ++ (low, high) ∷ []) n → Among is n ⊎ ((low ≤ n) × (n ≤ high))
among_there [] low high n (inl b) = inr b
among_there [] low high n (inr x) = absurd x
among_there (i ∷ is) low high n (inl b) = inl (inl b)
among_there (i ∷ is) low high n (inr h) = ⊎_elim (λ a. inl (inr a)) inr (among_there is low high n h)

pub among_kept : (is : List (ℕ × ℕ)) (low high n : ℕ) → Among is n → Among (is ++ (low, high) ∷ []) n
among_kept [] low high n h = absurd h
among_kept (i ∷ is) low high n (inl b) = inl b
among_kept (i ∷ is) low high n (inr h) = inr (among_kept is low high n h)

pub among_added : (is : List (ℕ × ℕ)) (low high n : ℕ) → low ≤ n → n ≤ high → Among (is ++ (low, high) ∷ []) n
among_added [] low high n l h = inl (l, h)
among_added (i ∷ is) low high n l h = inr (among_added is low high n l h)
