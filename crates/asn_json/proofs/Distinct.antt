-- Names that are distinct: each has one index.
use Rattle.std.proofs.Common.{◌≡◌, ◌<◌, ℕ, zero, suc, Bool, true, false, ◌||◌, List, [], ◌∷◌, length, Some, slice_get, bytes_eq, refl, arith}
use Rattle.std.specs.List.{list_any}
use Rattle.std.proofs.lemmas.Slice.Eq.{bytes_eq-Decides}
use Rattle.asn_values.specs.Profile.{has_twice}
use Rattle.asn_values.proofs.Parts.{left_false, right_false}
use Rattle.asn_view.specs.Names.{index_of}

pub same_name : (xs : List ℕ) → bytes_eq xs xs ≡ true
same_name xs = (bytes_eq-Decides xs xs).1 refl

-- what holds of none of the names does not hold of the one at an index
pub none_at : (test : List ℕ → Bool) (names : List (List ℕ)) (i : ℕ) (n : List ℕ) → list_any test names ≡ false → slice_get names i ≡ Some n → test n ≡ false
none_at test [] i n h e = absurd (cc)
none_at test (x ∷ names) zero n h e =
    let same : x ≡ n = cc in
    rw (← same) (left_false (test x) (list_any test names) h)
none_at test (x ∷ names) (suc i) n h e = none_at test names i n (right_false (test x) (list_any test names) h) e

-- the index of a name that stands at an index
pub index_of_name : (names : List (List ℕ)) (i : ℕ) (n : List ℕ) → has_twice bytes_eq names ≡ false → slice_get names i ≡ Some n → index_of n names ≡ Some i
index_of_name [] i n h e = absurd (cc)
index_of_name (x ∷ names) zero n h e =
    let same : x ≡ n = cc in
    rw (same, same_name n) refl
index_of_name (x ∷ names) (suc i) n h e =
    let other : bytes_eq x n ≡ false = none_at (bytes_eq x) names i n (left_false (list_any (bytes_eq x) names) (has_twice bytes_eq names) h) e in
    rw (other, index_of_name names i n (right_false (list_any (bytes_eq x) names) (has_twice bytes_eq names) h) e) refl

-- there is a name at each index
pub name_at : (names : List (List ℕ)) (i : ℕ) → i < length names → (n : List ℕ) × (slice_get names i ≡ Some n)
name_at [] i h = absurd (omega arith)
name_at (x ∷ names) zero h = (x, refl)
name_at (x ∷ names) (suc i) h = name_at names i (omega arith)

-- ---- each of the first names is among the second

abbrev pub AreAmong : List (List ℕ) → List (List ℕ) → Type 0
AreAmong [] names = Unit {0}
AreAmong (x ∷ xs) names = (list_any (bytes_eq x) names ≡ true) × AreAmong xs names

or_true : (a b : Bool) → b ≡ true → (a || b) ≡ true
or_true true b h = refl
or_true false b h = h

one_more : (x : List ℕ) (xs names : List (List ℕ)) → AreAmong xs names → AreAmong xs (x ∷ names)
one_more x [] names h = tt
one_more x (y ∷ xs) names h = (or_true (bytes_eq y x) (list_any (bytes_eq y) names) h.0, one_more x xs names h.1)

pub all_among : (names : List (List ℕ)) → AreAmong names names
all_among [] = tt
all_among (x ∷ names) = (rw (same_name x) refl, one_more x names names (all_among names))
