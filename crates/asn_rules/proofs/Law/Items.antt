-- The items of an ENUMERATED of the profile have distinct numbers, so a number has one index.
use Rattle.std.proofs.Common.{◌≡◌, ◌<◌, ◌+◌, ℕ, zero, suc, ℤ, pos, negsuc, Bool, true, false, not, ◌&&◌, ◌||◌, List, [], ◌∷◌, ◌++◌, length, map, refl, sym, ◌∙◌, ap, subst, arith, nat_le, length-append}
use Rattle.std.proofs.lemmas.Bool.{true≢false, leb-false, or_parts, or_from}
use Rattle.std.proofs.lemmas.List.{map-append}
use Rattle.std.specs.List.{list_any}
use Rattle.asn_values.specs.Shape.{Label, MoreLabels, more_labels}
use Rattle.asn_values.specs.Profile.{int_eq, has_twice, is_not_32_bits, bad_numbers}
use Rattle.asn_rules.specs.Components.{number_at}

-- the numbers of items
abbrev pub numbers : List Label → List ℤ
numbers ls = map (λ l. l.number) ls

-- a number equals itself
pub int_eq_refl : (z : ℤ) → int_eq z z ≡ true
int_eq_refl (pos n) = go (nat_le n n) refl
  where
    go : (b : Bool) → nat_le n n ≡ b → (b && b) ≡ true
    go true e = refl
    go false e = absurd (omega (arith, leb-false n n e))
int_eq_refl (negsuc n) = go (nat_le n n) refl
  where
    go : (b : Bool) → nat_le n n ≡ b → (b && b) ≡ true
    go true e = refl
    go false e = absurd (omega (arith, leb-false n n e))

-- the number at an index is among the numbers
among : (ls : List Label) (p : ℕ) (z : ℤ) → p < length ls → z ≡ number_at ls p → list_any (int_eq z) (numbers ls) ≡ true
among [] p z h e = absurd (omega arith)
among (k ∷ ls) zero z h e = let f : int_eq z k.number ≡ true = subst (λ n. int_eq z n ≡ true) e (int_eq_refl z) in rw f refl
among (k ∷ ls) (suc p) z h e = go (int_eq z k.number) (among ls p z (omega arith) e)
  where
    go : (b : Bool) → list_any (int_eq z) (numbers ls) ≡ true → (b || list_any (int_eq z) (numbers ls)) ≡ true
    go true h = refl
    go false h = h

-- distinct numbers have one index each
pub one_place : (ls : List Label) (p q : ℕ) → has_twice int_eq (numbers ls) ≡ false → p < length ls → q < length ls → number_at ls p ≡ number_at ls q → p ≡ q
one_place [] p q d hp hq e = absurd (omega arith)
one_place (k ∷ ls) zero zero d hp hq e = refl
one_place (k ∷ ls) zero (suc q) d hp hq e = absurd (true≢false (sym (among ls q k.number (omega arith) e) ∙ (or_parts _ _ d).0))
one_place (k ∷ ls) (suc p) zero d hp hq e = absurd (true≢false (sym (among ls p k.number (omega arith) (sym e)) ∙ (or_parts _ _ d).0))
one_place (k ∷ ls) (suc p) (suc q) d hp hq e = ap suc (one_place ls p q (or_parts _ _ d).1 (omega arith) (omega arith) e)

-- ---- root and additions

-- what equals none of both lists equals none of the first
none_of_first : (x : ℤ) (xs ys : List ℤ) → list_any (int_eq x) (xs ++ ys) ≡ false → list_any (int_eq x) xs ≡ false
none_of_first x [] ys h = refl
none_of_first x (z ∷ xs) ys h =
    let w = or_parts (int_eq x z) (list_any (int_eq x) (xs ++ ys)) h in
    or_from (int_eq x z) (list_any (int_eq x) xs) w.0 (none_of_first x xs ys w.1)

-- distinct numbers begin with distinct numbers
first_once : (xs ys : List ℤ) → has_twice int_eq (xs ++ ys) ≡ false → has_twice int_eq xs ≡ false
first_once [] ys h = refl
first_once (x ∷ xs) ys h =
    let w = or_parts (list_any (int_eq x) (xs ++ ys)) (has_twice int_eq (xs ++ ys)) h in
    or_from (list_any (int_eq x) xs) (has_twice int_eq xs) (none_of_first x xs ys w.0) (first_once xs ys w.1)

-- what a good enumeration has: distinct numbers in the root, numbers of 32 bits, and all of them distinct
pub record GoodItems (root : List Label) (more : MoreLabels) : Type 0 where
  pub root_once : has_twice int_eq (numbers root) ≡ false
  pub bits_32 : list_any is_not_32_bits (numbers (root ++ more_labels more)) ≡ false
  pub all_once : has_twice int_eq (numbers (root ++ more_labels more)) ≡ false

-- every ENUMERATED without bad numbers has them
pub good_items : (root : List Label) (more : MoreLabels) → bad_numbers (numbers root) (numbers (more_labels more)) ≡ false → GoodItems root more
good_items root more h =
    let xs = numbers root in
    let ys = numbers (more_labels more) in
    let a = or_parts (has_twice int_eq (xs ++ ys)) _ h in
    let b = or_parts (list_any is_not_32_bits (xs ++ ys)) _ a.1 in
    let e : numbers (root ++ more_labels more) ≡ xs ++ ys = map-append (λ l. l.number) root (more_labels more) in
    record {
      root_once = first_once xs ys a.0;
      bits_32 = ap (list_any is_not_32_bits) e ∙ b.0;
      all_once = ap (has_twice int_eq) e ∙ a.0;
    }

-- an item of the root or of the additions has its number alone
pub item_once : (root : List Label) (more : MoreLabels) → GoodItems root more → (p q : ℕ) → p < length root + length (more_labels more) → q < length root + length (more_labels more)
    → number_at (root ++ more_labels more) p ≡ number_at (root ++ more_labels more) q → p ≡ q
item_once root more h p q hp hq e =
    one_place (root ++ more_labels more) p q h.all_once (omega (arith, length-append root (more_labels more))) (omega (arith, length-append root (more_labels more))) e
