-- Lists in which an element stands twice, as a table finds it from their ends on.
use Rattle.std.proofs.Common.{◌≡◌, ◌<◌, ℕ, zero, suc, ℤ, pos, negsuc, Bool, true, false, cond, not, ◌||◌, ◌&&◌, List, [], ◌∷◌, ◌++◌, map, get_or, drop, length, refl, sym, ap, ◌∙◌, arith}
use Rattle.std.proofs.lemmas.Bool.{true≢false, and_parts, leb-true, leb-false}
use Rattle.std.proofs.lemmas.Bool.Decides.{same_from_decides, Decides-int_eq}
use Rattle.std.specs.Int.RustNames.{int_le}
use Rattle.std.specs.List.{list_any}
use Rattle.std.specs.Ordering.{int_eq}
use Rattle.std.specs.Prelude.{nat_le}
use Rattle.asn_values.specs.Profile as profile
use Rattle.asn_values.specs.Profile.{has_twice}
use Rattle.asn_values.specs.View.{numbers_seen}
use Rattle.asn_values.specs.declared.types.Item.{Item}

or_true : (b c : Bool) → c ≡ true → (b || c) ≡ true
or_true true c e = refl
or_true false c e = e

or_false : (b c : Bool) → c ≡ false → (b || c) ≡ b
or_false true c e = refl
or_false false c e = e

-- ---- one after the other

-- the element at an index is the first of those from there on
pub first_from : {A B : Type 0} (f : A → B) (xs : List A) (i : ℕ) (x : A) → i < length xs → x ≡ get_or xs i x
    → drop i (map f xs) ≡ f x ∷ drop (suc i) (map f xs)
first_from f [] i x less e = absurd (omega arith)
first_from f (y ∷ xs) zero x less e = ap (λ z. f z ∷ map f xs) (sym e)
first_from f (y ∷ xs) (suc i) x less e = first_from f xs i x (omega arith) e

pub first_number : (xs : List Item) (i : ℕ) (x : Item) → i < length xs → x ≡ get_or xs i x
    → drop i (numbers_seen xs) ≡ x.number ∷ drop (suc i) (numbers_seen xs)
first_number [] i x less e = absurd (omega arith)
first_number (y ∷ xs) zero x less e = ap (λ (z : Item). z.number ∷ numbers_seen xs) (sym e)
first_number (y ∷ xs) (suc i) x less e = first_number xs i x (omega arith) e

pub with_none : {B : Type 0} (xs : List B) → xs ++ [] ≡ xs
with_none [] = refl
with_none (x ∷ xs) = ap (λ zs. x ∷ zs) (with_none xs)

-- past the last there is none
pub none_left : {A B : Type 0} (f : A → B) (xs : List A) → drop (length xs) (map f xs) ≡ []
none_left f [] = refl
none_left f (x ∷ xs) = none_left f xs

pub no_number_left : (xs : List Item) → drop (length xs) (numbers_seen xs) ≡ []
no_number_left [] = refl
no_number_left (x ∷ xs) = no_number_left xs

-- ---- the table: eq tells elements apart, and `of` is the element that a key is

module _ {K B : Type 0} (eq : B → B → Bool) (same : (x y : B) → eq x y ≡ eq y x) (of : K → B) where
  found_more : (xs : List B) (n : K) (old new : K → Bool) → ((q : K) → old q ≡ list_any (eq (of q)) xs)
      → ((q : K) → new q ≡ cond (eq (of n) (of q)) true (old q)) → (q : K) → new q ≡ list_any (eq (of q)) (of n ∷ xs)
  found_more xs n old new found put q = put q ∙ by_test (eq (of n) (of q)) (eq (of q) (of n)) (same (of n) (of q)) (found q)
    where
      by_test : (a b : Bool) → a ≡ b → old q ≡ list_any (eq (of q)) xs → cond a true (old q) ≡ (b || list_any (eq (of q)) xs)
      by_test true true e h = refl
      by_test false false e h = h
      by_test true false e h = absurd cc
      by_test false true e h = absurd cc

  -- one key more in the table, that of the element before those that it has: these elements are found then, and one of
  -- them stands twice where the table had it
  pub table_step : (ns ys : List B) (i k : ℕ) (n : K) (old new : K → Bool) → k ≡ suc i → drop i ns ≡ of n ∷ drop (suc i) ns
      → ((q : K) → old q ≡ list_any (eq (of q)) (drop k ns ++ ys)) → ((q : K) → new q ≡ cond (eq (of n) (of q)) true (old q))
      → has_twice eq (drop k ns ++ ys) ≡ false
      → ((q : K) → new q ≡ list_any (eq (of q)) (drop i ns ++ ys)) × (has_twice eq (drop i ns ++ ys) ≡ old n)
  table_step ns ys i k n old new e first found put once =
      let found_here : (q : K) → old q ≡ list_any (eq (of q)) (drop (suc i) ns ++ ys) = λ q. found q ∙ ap (λ m. list_any (eq (of q)) (drop m ns ++ ys)) e in
      let once_here : has_twice eq (drop (suc i) ns ++ ys) ≡ false = sym (ap (λ m. has_twice eq (drop m ns ++ ys)) e) ∙ once in
      let turned : drop i ns ++ ys ≡ of n ∷ (drop (suc i) ns ++ ys) = ap (λ zs. zs ++ ys) first in (
        λ q. found_more (drop (suc i) ns ++ ys) n old new found_here put q ∙ sym (ap (list_any (eq (of q))) turned),
        ap (has_twice eq) turned ∙ or_false (list_any (eq (of n)) (drop (suc i) ns ++ ys)) (has_twice eq (drop (suc i) ns ++ ys)) once_here ∙ sym (found_here n),
      )

-- what stands twice from an index on stands twice
pub twice_within : {B : Type 0} (eq : B → B → Bool) (i : ℕ) (xs ys : List B) → has_twice eq (drop i xs ++ ys) ≡ true → has_twice eq (xs ++ ys) ≡ true
twice_within eq zero xs ys e = e
twice_within eq (suc i) [] ys e = e
twice_within eq (suc i) (x ∷ xs) ys e = or_true (list_any (eq x) (xs ++ ys)) (has_twice eq (xs ++ ys)) (twice_within eq i xs ys e)

pub twice_after : {B : Type 0} (eq : B → B → Bool) (xs ys : List B) → has_twice eq ys ≡ true → has_twice eq (xs ++ ys) ≡ true
twice_after eq [] ys e = e
twice_after eq (x ∷ xs) ys e = or_true (list_any (eq x) (xs ++ ys)) (has_twice eq (xs ++ ys)) (twice_after eq xs ys e)

-- ---- whether a set had an element that was put into it

pub had : (added has : Bool) → added ≡ not has → added ≡ false → has ≡ true
had added true e f = refl
had added false e f = absurd (true≢false (sym e ∙ f))

pub had_not : (added has : Bool) → added ≡ not has → added ≡ true → has ≡ false
had_not added false e f = refl
had_not added true e f = absurd (true≢false (sym f ∙ e))

-- ---- numbers: equality as the program has it, and as the profile has it

same_of_both : (x y : ℤ) → int_le x y ≡ true → int_le y x ≡ true → x ≡ y
same_of_both (pos m) (pos n) h k = ap pos (omega (arith, leb-true m n h, leb-true n m k))
same_of_both (pos m) (negsuc n) h k = absurd (true≢false (sym h))
same_of_both (negsuc m) (pos n) h k = absurd (true≢false (sym k))
same_of_both (negsuc m) (negsuc n) h k = ap negsuc (omega (arith, leb-true n m h, leb-true m n k))

equals_itself : (z : ℤ) → profile.int_eq z z ≡ true
equals_itself (pos n) = go (nat_le n n) refl
  where
    go : (b : Bool) → nat_le n n ≡ b → (b && b) ≡ true
    go true e = refl
    go false e = absurd (omega (arith, leb-false n n e))
equals_itself (negsuc n) = go (nat_le n n) refl
  where
    go : (b : Bool) → nat_le n n ≡ b → (b && b) ≡ true
    go true e = refl
    go false e = absurd (omega (arith, leb-false n n e))

pub same_number : (x y : ℤ) → int_eq x y ≡ profile.int_eq x y
same_number x y = same_from_decides (int_eq x y) (profile.int_eq x y) (Decides-int_eq x y) (
  (λ e. let parts = and_parts (int_le x y) (int_le y x) e in same_of_both x y parts.0 parts.1),
  λ e. ap (profile.int_eq x) (sym e) ∙ equals_itself x,
)

pub turned : (x y : ℤ) → profile.int_eq x y ≡ profile.int_eq y x
turned x y = both (int_le x y) (int_le y x)
  where
    both : (a b : Bool) → (a && b) ≡ (b && a)
    both true true = refl
    both true false = refl
    both false true = refl
    both false false = refl
