-- Numbers that rise, each compared with the next.
use Rattle.std.proofs.Common.{◌≡◌, ◌&&◌, ◌<◌, ℕ, zero, suc, ℤ, pos, negsuc, Bool, true, false, List, [], ◌∷◌, get_or, drop, take, length, refl, sym, ap, ◌∙◌, arith}
use Rattle.std.proofs.lemmas.Bool.{true≢false, and_parts, ltb-true, ltb-false, lt-ltb}
use Rattle.std.specs.List.{list_all}
use Rattle.std.specs.Int.RustNames.{int_lt}
use Rattle.asn_values.specs.Profile.{is_rising}
use Rattle.asn_values.specs.View.{numbers_seen}
use Rattle.asn_values.specs.declared.types.Item.{Item}

-- the items from an index on
from : (xs : List Item) (i : ℕ) (x : Item) → i < length xs → x ≡ get_or xs i x → drop i xs ≡ x ∷ drop (suc i) xs
from [] i x less e = absurd (omega arith)
from (y ∷ xs) zero x less e = ap (λ z. z ∷ xs) (sym e)
from (y ∷ xs) (suc i) x less e = from xs i x (omega arith) e

-- ---- numbers in order

-- below one that is below is below
lower_too : (x y z : ℤ) → int_lt x y ≡ true → int_lt y z ≡ true → int_lt x z ≡ true
lower_too (pos a) (pos b) (pos c) p q = lt-ltb a c (omega (arith, ltb-true a b p, ltb-true b c q))
lower_too (pos a) (pos b) (negsuc c) p q = absurd (true≢false (sym q))
lower_too (pos a) (negsuc b) z p q = absurd (true≢false (sym p))
lower_too (negsuc a) (pos b) (pos c) p q = refl
lower_too (negsuc a) (negsuc b) (pos c) p q = refl
lower_too (negsuc a) (pos b) (negsuc c) p q = absurd (true≢false (sym q))
lower_too (negsuc a) (negsuc b) (negsuc c) p q = lt-ltb c a (omega (arith, ltb-true b a p, ltb-true c b q))

-- one that is not above one below is below too
as_low_too : (x y z : ℤ) → int_lt y x ≡ false → int_lt y z ≡ true → int_lt x z ≡ true
as_low_too (pos a) (pos b) (pos c) p q = lt-ltb a c (omega (arith, ltb-false b a p, ltb-true b c q))
as_low_too (pos a) (pos b) (negsuc c) p q = absurd (true≢false (sym q))
as_low_too (pos a) (negsuc b) z p q = absurd (true≢false p)
as_low_too (negsuc a) y (pos c) p q = refl
as_low_too (negsuc a) (pos b) (negsuc c) p q = absurd (true≢false (sym q))
as_low_too (negsuc a) (negsuc b) (negsuc c) p q = lt-ltb c a (omega (arith, ltb-false a b p, ltb-true c b q))

-- what is below another as soon as a second is, is below all of which that is
below_each : (x y : ℤ) (zs : List ℤ) → ((z : ℤ) → int_lt y z ≡ true → int_lt x z ≡ true) → list_all (int_lt y) zs ≡ true → list_all (int_lt x) zs ≡ true
below_each x y [] too h = refl
below_each x y (z ∷ zs) too h =
    let parts = and_parts (int_lt y z) (list_all (int_lt y) zs) h in
    rw (too z parts.0) (below_each x y zs too parts.1)

-- ---- each compared with the next

and_false : (b : Bool) → (b && false) ≡ false
and_false true = refl
and_false false = refl

-- numbers of which the first is below the second rise where those from the second on do
rising_from_next : (x y : ℤ) (zs : List ℤ) → int_lt x y ≡ true → is_rising (x ∷ y ∷ zs) ≡ is_rising (y ∷ zs)
rising_from_next x y zs less = rw less (by_test (list_all (int_lt y) zs) refl)
  where
    by_test : (b : Bool) → list_all (int_lt y) zs ≡ b → (list_all (int_lt x) zs && (b && is_rising zs)) ≡ (b && is_rising zs)
    by_test true e = rw (below_each x y zs (λ z. lower_too x y z less) e) refl
    by_test false e = and_false (list_all (int_lt x) zs)

-- numbers rise where the first is below the next, if there is one, and those after it rise
pub rising_by_next : (x : ℤ) (zs : List ℤ) → is_rising (x ∷ zs) ≡ (list_all (int_lt x) (take 1 zs) && is_rising zs)
rising_by_next x [] = refl
rising_by_next x (y ∷ zs) = by_test (int_lt x y) refl
  where
    by_test : (b : Bool) → int_lt x y ≡ b → is_rising (x ∷ y ∷ zs) ≡ ((b && true) && is_rising (y ∷ zs))
    by_test true e = rising_from_next x y zs e
    by_test false e = rw e refl

-- at an item
pub rising_at : (xs : List Item) (i k : ℕ) (x : Item) → k ≡ suc i → i < length xs → x ≡ get_or xs i x
    → is_rising (numbers_seen (drop i xs)) ≡ (list_all (int_lt x.number) (take 1 (numbers_seen (drop k xs))) && is_rising (numbers_seen (drop k xs)))
rising_at xs i k x e less is =
    ap (λ zs. is_rising (numbers_seen zs)) (from xs i x less is) ∙ rising_by_next x.number (numbers_seen (drop (suc i) xs))
    ∙ ap (λ m. list_all (int_lt x.number) (take 1 (numbers_seen (drop m xs))) && is_rising (numbers_seen (drop m xs))) (sym e)
