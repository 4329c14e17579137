-- Numbers of an ENUMERATED that were good in the profiles before this one are good.
use Rattle.std.proofs.Common.{◌≡◌, ◌++◌, ◌&&◌, not, ℤ, pos, negsuc, Bool, true, false, List, [], ◌∷◌, map, nat_le, refl}
use Rattle.std.proofs.lemmas.Bool.{lt-leb, ltb-true, and_parts, or_parts, or_from, not-false}
use Rattle.std.specs.List.{list_any, list_all}
use Rattle.std.specs.Int.RustNames.{int_lt}
use Rattle.asn_values.specs.Shape.{Shape, boolean, null, integer, enumerated, more_labels, bit_string, octet_string, restricted, utf8_string, sequence, sequence_of, choice}
use Rattle.asn_values.specs.Profile.{int_eq, has_twice, is_not_32_bits, is_rising, bad_numbers, bad_enumeration, somewhere}
use Rattle.asn_values.specs.Older.{older_bad_numbers, older_bad_enumeration}
use Rattle.asn_values.proofs.WiderTypes.{Less, less_somewhere}

-- a number below another differs from it
below_differs : (x y : ℤ) → int_lt x y ≡ true → int_eq x y ≡ false
below_differs (pos a) (pos b) h = let e : nat_le b a ≡ false = lt-leb b a (ltb-true a b h) in differs (nat_le a b) (nat_le b a) e
  where
    differs : (c d : Bool) → d ≡ false → (c && d) ≡ false
    differs true d e = e
    differs false d e = refl
below_differs (pos a) (negsuc b) h = refl
below_differs (negsuc a) (pos b) h = refl
below_differs (negsuc a) (negsuc b) h = let e : nat_le a b ≡ false = lt-leb a b (ltb-true b a h) in differs (nat_le b a) (nat_le a b) e
  where
    differs : (c d : Bool) → d ≡ false → (c && d) ≡ false
    differs true d e = e
    differs false d e = refl

-- a number below each of some differs from each
none_equal : (x : ℤ) (ys : List ℤ) → list_all (int_lt x) ys ≡ true → list_any (int_eq x) ys ≡ false
none_equal x [] h = refl
none_equal x (y ∷ ys) h =
    let w = and_parts (int_lt x y) (list_all (int_lt x) ys) h in
    or_from (int_eq x y) (list_any (int_eq x) ys) (below_differs x y w.0) (none_equal x ys w.1)

-- numbers that rise are distinct
rising_once : (ys : List ℤ) → is_rising ys ≡ true → has_twice int_eq ys ≡ false
rising_once [] h = refl
rising_once (y ∷ ys) h =
    let w = and_parts (list_all (int_lt y) ys) (is_rising ys) h in
    or_from (list_any (int_eq y) ys) (has_twice int_eq ys) (none_equal y ys w.0) (rising_once ys w.1)

-- what equals none of either list equals none of both
any_append : (x : ℤ) (xs ys : List ℤ) → list_any (int_eq x) xs ≡ false → list_any (int_eq x) ys ≡ false → list_any (int_eq x) (xs ++ ys) ≡ false
any_append x [] ys p q = q
any_append x (z ∷ xs) ys p q =
    let w = or_parts (int_eq x z) (list_any (int_eq x) xs) p in
    or_from (int_eq x z) (list_any (int_eq x) (xs ++ ys)) w.0 (any_append x xs ys w.1 q)

-- distinct numbers, and rising ones above them all
once_with : (xs ys : List ℤ) → has_twice int_eq xs ≡ false → is_rising ys ≡ true → list_all (λ x. list_all (int_lt x) ys) xs ≡ true → has_twice int_eq (xs ++ ys) ≡ false
once_with [] ys d r a = rising_once ys r
once_with (x ∷ xs) ys d r a =
    let w = or_parts (list_any (int_eq x) xs) (has_twice int_eq xs) d in
    let v = and_parts (list_all (int_lt x) ys) (list_all (λ x. list_all (int_lt x) ys) xs) a in
    or_from (list_any (int_eq x) (xs ++ ys)) (has_twice int_eq (xs ++ ys)) (any_append x xs ys w.0 (none_equal x ys v.0)) (once_with xs ys w.1 r v.1)

numbers_stay : (xs ys : List ℤ) → older_bad_numbers xs ys ≡ false → bad_numbers xs ys ≡ false
numbers_stay xs ys h =
    let a = or_parts (has_twice int_eq xs) _ h in
    let b = or_parts (list_any is_not_32_bits (xs ++ ys)) _ a.1 in
    let c = or_parts (not (is_rising ys)) (not (list_all (λ x. list_all (int_lt x) ys) xs)) b.1 in
    let once = once_with xs ys a.0 (not-false (is_rising ys) c.0) (not-false (list_all (λ x. list_all (int_lt x) ys) xs) c.1) in
    or_from (has_twice int_eq (xs ++ ys)) _ once (or_from (list_any is_not_32_bits (xs ++ ys)) _ b.0 c.0)

enumeration_stays : Less older_bad_enumeration bad_enumeration
enumeration_stays (enumerated root more) h = numbers_stay (map (λ l. l.number) root) (map (λ l. l.number) (more_labels more)) h
enumeration_stays boolean h = refl
enumeration_stays null h = refl
enumeration_stays (integer b) h = refl
enumeration_stays (bit_string s) h = refl
enumeration_stays (octet_string s) h = refl
enumeration_stays (restricted k s) h = refl
enumeration_stays utf8_string h = refl
enumeration_stays (sequence root more) h = refl
enumeration_stays (sequence_of t s) h = refl
enumeration_stays (choice root more) h = refl

pub enumerations_stay : (t : Shape) → somewhere older_bad_enumeration t ≡ false → somewhere bad_enumeration t ≡ false
enumerations_stay = less_somewhere older_bad_enumeration bad_enumeration enumeration_stays
