-- Each type of the profile has a value.
use Rattle.std.proofs.Common.{◌≡◌, ◌<◌, ◌-◌, ◌==◌, ℕ, zero, suc, ℤ, pos, negsuc, ◌≤ℤ◌, Bool, true, false, not, ◌||◌, List, [], ◌∷◌, ◌++◌, length, take, drop, replicate, Option, Some, None, inl, inr, refl, sym, ◌∙◌, ap, subst, arith, IsTrue, T, nat_lt, nat_le, MatchBool}
use Rattle.std.proofs.lemmas.Bool.{true≢false, lt-ltb, ltb-false, le-leb, eq-eqb, cases_lt, or_parts, not-false}
use Rattle.std.proofs.lemmas.List.{length-replicate}
use Rattle.std.proofs.Math.Seq.{take-append_seam, drop-append_seam}
use Rattle.std.proofs.lemmas.Str.{IsUtf8-nil}
use Rattle.std.specs.List.{AllByRecursion}
use Rattle.std.specs.Int.RustNames.{int_le, int_lt}
use Rattle.std.specs.Int.Signed.{lt_z_no}
use Rattle.asn_values.specs.Datum.{Datum, truth, nothing, number, item, bit_list, octet_list, characters, unicode, components, elements, alternative, component_list, element_list, elements_of, components_of}
use Rattle.asn_values.specs.Shape.{Alphabet, SizeRange, ia5, numeric, visible, Shape, boolean, null, integer, enumerated, bit_string, octet_string, restricted, utf8_string, sequence, sequence_of, choice, Label, MoreLabels, Fields, no_fields, field, MoreFields, closed, marked, demands, no_alternatives, one_of, count}
use Rattle.asn_values.specs.Fits.{Fits, FitsEach, FitsMore, FitsMoreAlternatives, FitsLength, FitsNumber, FitsSequence, is_of_kind, in_size, not_above, at_most, lowest_integer, highest_integer}
use Rattle.asn_values.specs.Profile.{EmptyRange, SizeTooLarge, somewhere, some_field, some_addition, some_alternative, some_more, empty_range, size_too_large, low_above_high, is_outside, size_above, large_size}
use Rattle.asn_rules.specs.Laws.{EachHasAValue}

-- ---- numbers

-- a number is at most itself
le_self : (z : ℤ) → int_le z z ≡ true
le_self (pos n) = le-leb n n (omega arith)
le_self (negsuc n) = le-leb n n (omega arith)

-- one that is not less is at least as large
not_less : (a b : ℤ) → int_lt a b ≡ false → b ≤ℤ a
not_less a b e = lt_z_no (subst (λ t. T (not t)) (sym e) tt)

-- a bound within the profile
inside_profile : (z : ℤ) → is_outside (Some z) ≡ false → (lowest_integer ≤ℤ z) × (z ≤ℤ highest_integer)
inside_profile z h = let w = or_parts _ _ h in (not_less z lowest_integer w.0, not_less highest_integer z w.1)

-- in the root or not, where there is a mark
either_range : (m i : Bool) → i ≡ true → (m || i) ≡ true
either_range true i e = refl
either_range false i e = e

-- a number between bounds that are not empty
pub number_between : (low high : Option ℤ) (m : Bool) → (low_above_high low high || (is_outside low || is_outside high)) ≡ false
    → (z : ℤ) × FitsNumber (record { low = low; high = high; extensible = m }) z
number_between (Some l) high m h =
    let w = or_parts _ _ h in
    let v = or_parts _ _ w.1 in
    let p = inside_profile l v.0 in
    let a : at_most high l ≡ true = not-false _ w.0 in
    (l, (p.0, p.1, either_range m _ (rw (le_self l) a)))
number_between None (Some u) m h =
    let p = inside_profile u h in
    (u, (p.0, p.1, either_range m _ (le_self u)))
number_between None None m h = (pos 0, (not_less (pos 0) lowest_integer refl, not_less highest_integer (pos 0) refl, either_range m true refl))

-- ---- lengths

-- a size that is not empty has its own low bound
high_enough : (low : ℕ) (high : Option ℕ) (ext : Bool) → size_above (record { low = low; high = high; extensible = ext }) ≡ false → not_above high low ≡ true
high_enough low None ext h = refl
high_enough low (Some n) ext h = le-leb low n (ltb-false n low h)

-- what holds of an element holds of all of its copies
pub all_same : {A : Type 0} (P : A → Type 0) (a : A) (n : ℕ) → P a → AllByRecursion P (replicate n a)
all_same P a zero h = tt
all_same P a (suc n) h = (h, all_same P a n h)

-- the shortest list of copies has a length that fits
pub shortest_fits : {A : Type 0} (z : SizeRange) (a : A) → size_above z ≡ false → large_size (Some z) ≡ false → FitsLength z (length (replicate z.low a))
shortest_fits z a h g = subst (FitsLength z) (sym (length-replicate z.low a)) (omega (arith, ltb-false 268435455 z.low (or_parts _ _ g).0), either z.extensible)
  where
    inside : in_size z z.low ≡ true
    inside = let a : nat_le z.low z.low ≡ true = le-leb z.low z.low (omega arith) in rw (a, high_enough z.low z.high z.extensible h) refl

    either : (m : Bool) → (m || in_size z z.low) ≡ true
    either true = refl
    either false = inside

-- ---- entries, elements and characters

-- entries come back from the value they make,
pub entries_again : (es : List (Option Datum)) → component_list (components_of es) ≡ es
entries_again [] = refl
entries_again (None ∷ es) = ap (λ t. None ∷ t) (entries_again es)
entries_again (Some d ∷ es) = ap (λ t. Some d ∷ t) (entries_again es)

-- and so do elements
pub list_again : (ds : List Datum) → element_list (elements_of ds) ≡ ds
list_again [] = refl
list_again (d ∷ ds) = ap (λ t. d ∷ t) (list_again ds)

-- SPACE is a character of each alphabet
pub character_fits : (k : Alphabet) → is_of_kind k 32 ≡ true
character_fits ia5 = refl
character_fits numeric = refl
character_fits visible = refl

-- the root of an ENUMERATED that is not empty has an item
pub some_length : (root : List Label) (more : MoreLabels) → (length root == 0) ≡ false → 0 < length root
some_length root more h = elim (cases_lt 0 (length root)) [
  | inl l ↦ l
  | inr l ↦ absurd (true≢false (sym (eq-eqb (length root) 0 (omega arith)) ∙ h))
]

-- entries of the root and of the additions are entries of the SEQUENCE
pub entries_fit : (root : Fields) (more : MoreFields) (es gs : List (Option Datum)) → length es ≡ length (demands root) → FitsEach root es → FitsMore more gs
    → FitsSequence root more (component_list (components_of (es ++ gs)))
entries_fit root more es gs l p q =
    subst (FitsSequence root more) (sym (entries_again (es ++ gs)))
    (subst (λ n. FitsEach root (take n (es ++ gs)) × FitsMore more (drop n (es ++ gs))) l
    (subst (FitsEach root) (sym (take-append_seam es gs)) p, subst (FitsMore more) (sym (drop-append_seam es gs)) q))

-- an alternative is the first of one or more
pub first_place : (n : ℕ) → nat_lt 0 (suc n) ≡ true
first_place n = lt-ltb 0 (suc n) (omega arith)

-- ---- all types

mutual
  -- a type whose ranges are not empty and whose sizes are not too large has a value
  pub some_value : (t : Shape) → somewhere empty_range t ≡ false → somewhere size_too_large t ≡ false → (d : Datum) × Fits t d
  some_value boolean h g = (truth true, tt)
  some_value null h g = (nothing, tt)
  some_value (integer b) h g = let w = number_between b.low b.high b.extensible h in (number w.0, w.1)
  some_value (enumerated root more) h g = (item 0, omega (arith, some_length root more h))
  some_value (bit_string z) h g = (bit_list (replicate z.low true), shortest_fits z true h g)
  some_value (octet_string z) h g = (octet_list (replicate z.low 0), (shortest_fits z 0 h g, all_same (λ o. o < 256) 0 z.low (omega arith)))
  some_value (restricted k z) h g = (characters (replicate z.low 32), (shortest_fits z 32 h g, all_same (λ c. IsTrue (is_of_kind k c)) 32 z.low (character_fits k)))
  some_value utf8_string h g = (unicode [], (omega arith, IsUtf8-nil))
  some_value (sequence root more) h g =
      let a = or_parts (some_field empty_range root) (some_addition empty_range more) h in
      let b = or_parts (some_field size_too_large root) (some_addition size_too_large more) g in
      let es = some_entries root a.0 b.0 in
      let gs = some_additions more a.1 b.1 in
      (components (components_of (es.0 ++ gs.0)), entries_fit root more es.0 gs.0 es.2 es.1 gs.1)
  some_value (sequence_of t z) h g =
      let a = or_parts (size_above z) (somewhere empty_range t) h in
      let b = or_parts (large_size (Some z)) (somewhere size_too_large t) g in
      let v = some_value t a.1 b.1 in (
        elements (elements_of (replicate z.low v.0)),
        subst (λ ds. FitsLength z (length ds) × AllByRecursion (λ e. Fits t e) ds) (sym (list_again (replicate z.low v.0)))
            (shortest_fits z v.0 a.0 b.0, all_same (λ e. Fits t e) v.0 z.low v.1),
      )
  some_value (choice no_alternatives more) h g = absurd (true≢false h)
  some_value (choice (one_of name t alts) more) h g =
      let a = or_parts (somewhere empty_range t) (some_alternative empty_range alts) (or_parts _ (some_more empty_range more) (or_parts (count (one_of name t alts) == 0) _ h).1).0 in
      let b = or_parts (somewhere size_too_large t) (some_alternative size_too_large alts) (or_parts _ (some_more size_too_large more) g).0 in
      let v = some_value t a.0 b.0 in
      (alternative 0 v.0, subst (λ i. MatchBool i (Fits t v.0) (FitsMoreAlternatives more (0 - count (one_of name t alts)) v.0)) (sym (first_place (count alts))) v.1)

  -- so have its components,
  pub some_entries : (fs : Fields) → some_field empty_range fs ≡ false → some_field size_too_large fs ≡ false → (es : List (Option Datum)) × FitsEach fs es × (length es ≡ length (demands fs))
  some_entries no_fields h g = ([], tt, refl)
  some_entries (field name demand t fs) h g =
      let a = or_parts (somewhere empty_range t) (some_field empty_range fs) h in
      let b = or_parts (somewhere size_too_large t) (some_field size_too_large fs) g in
      let v = some_value t a.0 b.0 in
      let es = some_entries fs a.1 b.1 in
      (Some v.0 ∷ es.0, (v.1, es.1), ap suc es.2)

  -- and its additions
  some_additions : (more : MoreFields) → some_addition empty_range more ≡ false → some_addition size_too_large more ≡ false → (es : List (Option Datum)) × FitsMore more es
  some_additions closed h g = ([], tt)
  some_additions (marked fs) h g = let w = some_entries fs h g in (w.0, w.1)

-- each type of the profile is such a type
pub a_value : EachHasAValue
a_value t h = some_value t (h EmptyRange) (h SizeTooLarge)
