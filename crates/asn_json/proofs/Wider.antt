-- JSON that shows a value under some limits shows it under wider ones.
use Rattle.std.proofs.Common.{◌≡◌, ◌-◌, ℕ, zero, suc, ℤ, ◌≤ℤ◌, Bool, true, false, ◌&&◌, List, [], ◌∷◌, ◌++◌, map, Option, Some, None, option_map, nat_lt, refl, sym, ap, ◌∙◌, arith}
use Rattle.std.specs.Prelude.{option_and_then, if◌then◌else◌}
use Rattle.std.specs.Int.RustNames.{int_le}
use Rattle.std.proofs.lemmas.Bool.{true≢false}
use Rattle.serde_json.specs.Data.{Data, Items, no_items, item, Members}
use Rattle.serde_json.specs.Find.{as_number, as_integer, as_array, as_object, get_member}
use Rattle.asn_values.specs.Datum.{Datum, number, alternative, elements, elements_of}
use Rattle.asn_values.specs.Fits.{Limits, AreWider, lowest_integer, in_range}
use Rattle.asn_values.proofs.Defaults.{le_also, le_true}
use Rattle.asn_values.specs.Shape.{Shape, boolean, null, integer, enumerated, bit_string, octet_string, restricted, utf8_string, sequence, sequence_of, choice, Demand, must, optional, default, Fields, no_fields, field, MoreFields, closed, marked, Alternatives, no_alternatives, one_of, MoreAlternatives, closed_choice, marked_choice, count}
use Rattle.asn_view.specs.Names.{index_of}
use Rattle.asn_json.specs.Errors.{errors_under, field_errors_under, added_errors_under, errors_at_under, added_errors_at_under, element_errors, entry_errors, errors_within, errors_of_member, member_errors, unknown_errors, unless_read}
use Rattle.asn_json.specs.Paths.{here, to_member, to_element, below}
use Rattle.asn_json.specs.Shown.{value_of_under, entries_under, added_entries_under, value_at_under, added_value_at_under, number_in_under, if_integer_under, entry_of, item_list, of_entries, of_elements, or_nothing, chosen_value, value_of_member, member_value, only_member, choice_names, component_names}
use Rattle.asn_json.specs.Written.{integers_under}

-- ---- lists of paths

parts_empty : {A : Type 0} (xs ys : List A) → xs ++ ys ≡ [] → (xs ≡ []) × (ys ≡ [])
parts_empty [] ys e = (refl, e)
parts_empty (x ∷ xs) ys e = cc

both_empty : {A : Type 0} (xs ys : List A) → xs ≡ [] → ys ≡ [] → xs ++ ys ≡ []
both_empty [] ys e f = f
both_empty (x ∷ xs) ys e f = cc

pub none_below : (step : List ℕ) (paths : List (List ℕ)) → below step paths ≡ [] → paths ≡ []
none_below step [] e = refl
none_below step (x ∷ xs) e = cc

-- ---- what holds of a part holds of the whole: f and g tell errors, x and y values

-- where f tells no error, g tells none, and y gives the value that x gives
abbrev Stays : {A : Type 0} → (A → List (List ℕ)) → (A → List (List ℕ)) → (A → Datum) → (A → Datum) → Type 0
Stays {A} f g x y = (a : A) → f a ≡ [] → (g a ≡ []) × (y a ≡ x a)

entry_stays : (name : List ℕ) (demand : Demand) (f g : Data → List (List ℕ)) (x y : Data → Datum) → Stays f g x y → (found : Option Data)
    → entry_errors name demand f found ≡ [] → (entry_errors name demand g found ≡ []) × (entry_of demand y found ≡ entry_of demand x found)
entry_stays name demand f g x y stays (Some j) h =
    let part = stays j (none_below (to_member name) (f j) h) in
    (ap (below (to_member name)) part.0, ap (λ d. Some d) part.1)
entry_stays name must f g x y stays None h = (h, refl)
entry_stays name optional f g x y stays None h = (h, refl)
entry_stays name (default d) f g x y stays None h = (h, refl)

elements_stay : (f g : Data → List (List ℕ)) (x y : Data → Datum) → Stays f g x y → (i : ℕ) (ds : Items)
    → element_errors f i ds ≡ [] → (element_errors g i ds ≡ []) × (map y (item_list ds) ≡ map x (item_list ds))
elements_stay f g x y stays i no_items h = (refl, refl)
elements_stay f g x y stays i (item d ds) h =
    let parts = parts_empty (below (to_element i) (f d)) (element_errors f (suc i) ds) h in
    let first = stays d (none_below (to_element i) (f d) parts.0) in
    let rest = elements_stay f g x y stays (suc i) ds parts.1 in
    (both_empty (below (to_element i) (g d)) (element_errors g (suc i) ds) (ap (below (to_element i)) first.0) rest.0, rw (first.1, rest.1) refl)

array_stays : (f g : Data → List (List ℕ)) (x y : Data → Datum) → Stays f g x y → (found : Option Items)
    → errors_within (λ ds. element_errors f 0 ds) found ≡ []
    → (errors_within (λ ds. element_errors g 0 ds) found ≡ []) × (or_nothing (option_map (λ ds. of_elements y ds) found) ≡ or_nothing (option_map (λ ds. of_elements x ds) found))
array_stays f g x y stays None h = (h, refl)
array_stays f g x y stays (Some ds) h =
    let all = elements_stay f g x y stays 0 ds h in
    (all.0, ap (λ vs. elements (elements_of vs)) all.1)

object_stays : (f g : Members → List (List ℕ)) (x y : Members → Datum) → Stays f g x y → (found : Option Members)
    → errors_within f found ≡ [] → (errors_within g found ≡ []) × (or_nothing (option_map y found) ≡ or_nothing (option_map x found))
object_stays f g x y stays None h = (h, refl)
object_stays f g x y stays (Some ms) h = stays ms h

-- of the components before the mark and after it, with the keys that are unknown
components_stay : (root root' added added' unknown : List (List ℕ)) (es es' fs fs' : List (Option Datum))
    → (root ≡ [] → (root' ≡ []) × (es' ≡ es)) → (added ≡ [] → (added' ≡ []) × (fs' ≡ fs))
    → root ++ (added ++ unknown) ≡ [] → (root' ++ (added' ++ unknown) ≡ []) × (of_entries (es' ++ fs') ≡ of_entries (es ++ fs))
components_stay root root' added added' unknown es es' fs fs' first second h =
    let all = parts_empty root (added ++ unknown) h in
    let later = parts_empty added unknown all.1 in
    let a = first all.0 in
    let b = second later.0 in
    (both_empty root' (added' ++ unknown) a.0 (both_empty added' unknown b.0 later.1), rw (a.1, b.1) refl)

-- of the alternative at each index
abbrev AlternativesStay : (ℕ → Data → List (List ℕ)) → (ℕ → Data → List (List ℕ)) → (ℕ → Data → Datum) → (ℕ → Data → Datum) → Type 0
AlternativesStay f g x y = (p : ℕ) → Stays (f p) (g p) (x p) (y p)

chosen_stays : (f g : ℕ → Data → List (List ℕ)) (x y : ℕ → Data → Datum) → AlternativesStay f g x y → (name : List ℕ) (j : Data) (index : Option ℕ)
    → errors_within (λ p. below (to_member name) (f p j)) index ≡ []
    → (errors_within (λ p. below (to_member name) (g p j)) index ≡ []) × (chosen_value (λ p. y p j) index ≡ chosen_value (λ p. x p j) index)
chosen_stays f g x y stays name j None h = (h, refl)
chosen_stays f g x y stays name j (Some p) h =
    let part = stays p j (none_below (to_member name) (f p j) h) in
    (ap (below (to_member name)) part.0, ap (alternative p) part.1)

choice_stays : (f g : ℕ → Data → List (List ℕ)) (x y : ℕ → Data → Datum) → AlternativesStay f g x y → (names : List (List ℕ)) (found : Option (List ℕ × Data))
    → member_errors f names found ≡ [] → (member_errors g names found ≡ []) × (member_value y names found ≡ member_value x names found)
choice_stays f g x y stays names None h = (h, refl)
choice_stays f g x y stays names (Some m) h = chosen_stays f g x y stays m.0 m.1 (index_of m.0 names) h

split_stays : (root : Bool) (f g f' g' : Data → List (List ℕ)) (x y x' y' : Data → Datum) → Stays f g x y → Stays f' g' x' y' → (j : Data)
    → (if root then f j else f' j) ≡ [] → ((if root then g j else g' j) ≡ []) × ((if root then y j else y' j) ≡ (if root then x j else x' j))
split_stays true f g f' g' x y x' y' stays stays' j h = stays j h
split_stays false f g f' g' x y x' y' stays stays' j h = stays' j h

-- ---- numbers

both_true : (a b : Bool) → (a && b) ≡ true → (a ≡ true) × (b ≡ true)
both_true true b e = (refl, e)
both_true false b e = absurd (true≢false (sym e))

-- where the first test takes a number, the second takes it
number_stays : (a b : Bool) (z : ℤ) → (a ≡ true → b ≡ true) → unless_read (if a then Some (number z) else None) ≡ []
    → (unless_read (if b then Some (number z) else None) ≡ []) × (or_nothing (if b then Some (number z) else None) ≡ or_nothing (if a then Some (number z) else None))
number_stays true true z f h = (refl, refl)
number_stays true false z f h = absurd (true≢false (sym (f refl)))
number_stays false b z f h = absurd cc

-- ---- by induction on the type

module _ (l m : Limits) (w : AreWider l m) where
  within_wider : (z : ℤ) → in_range (integers_under l) z ≡ true → in_range (integers_under m) z ≡ true
  within_wider z h =
      let parts = both_true (int_le lowest_integer z) (int_le z l.highest) h in
      let below = le_also z l.highest m.highest parts.1 (le_true l.highest m.highest w.highest) in
      rw (parts.0, below) refl

  integer_stays : (z : Option ℤ) → unless_read (option_and_then (if_integer_under l) z) ≡ []
      → (unless_read (option_and_then (if_integer_under m) z) ≡ []) × (or_nothing (option_and_then (if_integer_under m) z) ≡ or_nothing (option_and_then (if_integer_under l) z))
  integer_stays None h = (h, refl)
  integer_stays (Some z) h = number_stays (in_range (integers_under l) z) (in_range (integers_under m) z) z (within_wider z) h

  mutual
    type_stays : (t : Shape) → Stays (errors_under l t) (errors_under m t) (value_of_under l t) (value_of_under m t)
    type_stays boolean j h = (h, refl)
    type_stays null j h = (h, refl)
    type_stays (integer b) j h = integer_stays (option_and_then as_integer (as_number j)) h
    type_stays (enumerated root more) j h = (h, refl)
    type_stays (bit_string s) j h = (h, refl)
    type_stays (octet_string s) j h = (h, refl)
    type_stays (restricted k s) j h = (h, refl)
    type_stays utf8_string j h = (h, refl)
    type_stays (sequence root more) j h =
        object_stays
        (λ ms. field_errors_under l root ms ++ (added_errors_under l more ms ++ unknown_errors (component_names root more) ms))
        (λ ms. field_errors_under m root ms ++ (added_errors_under m more ms ++ unknown_errors (component_names root more) ms))
        (λ ms. of_entries (entries_under l root ms ++ added_entries_under l more ms))
        (λ ms. of_entries (entries_under m root ms ++ added_entries_under m more ms))
        (λ ms e. components_stay (field_errors_under l root ms) (field_errors_under m root ms) (added_errors_under l more ms) (added_errors_under m more ms) (unknown_errors (component_names root more) ms)
        (entries_under l root ms) (entries_under m root ms) (added_entries_under l more ms) (added_entries_under m more ms) (fields_stay root ms) (additions_stay more ms) e) (as_object j) h
    type_stays (sequence_of t s) j h =
        array_stays (errors_under l t) (errors_under m t) (value_of_under l t) (value_of_under m t) (type_stays t) (as_array j) h
    type_stays (choice root more) j h =
        choice_stays
        (λ p e. if nat_lt p (count root) then errors_at_under l root p e else added_errors_at_under l more (p - count root) e)
        (λ p e. if nat_lt p (count root) then errors_at_under m root p e else added_errors_at_under m more (p - count root) e)
        (λ p e. if nat_lt p (count root) then value_at_under l root p e else added_value_at_under l more (p - count root) e)
        (λ p e. if nat_lt p (count root) then value_at_under m root p e else added_value_at_under m more (p - count root) e)
        (λ p e f. split_stays (nat_lt p (count root)) (errors_at_under l root p) (errors_at_under m root p) (added_errors_at_under l more (p - count root)) (added_errors_at_under m more (p - count root))
        (value_at_under l root p) (value_at_under m root p) (added_value_at_under l more (p - count root)) (added_value_at_under m more (p - count root))
        (alternative_stays root p) (added_alternative_stays more (p - count root)) e f)
        (choice_names root more) (only_member j) h

    fields_stay : (fs : Fields) (ms : Members) → field_errors_under l fs ms ≡ [] → (field_errors_under m fs ms ≡ []) × (entries_under m fs ms ≡ entries_under l fs ms)
    fields_stay no_fields ms h = (refl, refl)
    fields_stay (field name demand t fs) ms h =
        let found = get_member name ms in
        let parts = parts_empty (entry_errors name demand (λ j. errors_under l t j) found) (field_errors_under l fs ms) h in
        let first = entry_stays name demand (errors_under l t) (errors_under m t) (value_of_under l t) (value_of_under m t) (type_stays t) found parts.0 in
        let rest = fields_stay fs ms parts.1 in
        (both_empty (entry_errors name demand (λ j. errors_under m t j) found) (field_errors_under m fs ms) first.0 rest.0, rw (first.1, rest.1) refl)

    additions_stay : (more : MoreFields) (ms : Members) → added_errors_under l more ms ≡ [] → (added_errors_under m more ms ≡ []) × (added_entries_under m more ms ≡ added_entries_under l more ms)
    additions_stay closed ms h = (h, refl)
    additions_stay (marked fs) ms h = fields_stay fs ms h

    alternative_stays : (alts : Alternatives) (p : ℕ) → Stays (errors_at_under l alts p) (errors_at_under m alts p) (value_at_under l alts p) (value_at_under m alts p)
    alternative_stays no_alternatives p j h = (h, refl)
    alternative_stays (one_of name t alts) zero j h = type_stays t j h
    alternative_stays (one_of name t alts) (suc p) j h = alternative_stays alts p j h

    added_alternative_stays : (more : MoreAlternatives) (p : ℕ) → Stays (added_errors_at_under l more p) (added_errors_at_under m more p) (added_value_at_under l more p) (added_value_at_under m more p)
    added_alternative_stays closed_choice p j h = (h, refl)
    added_alternative_stays (marked_choice alts) p j h = alternative_stays alts p j h

  pub stays_shown : (t : Shape) → Stays (errors_under l t) (errors_under m t) (value_of_under l t) (value_of_under m t)
  stays_shown t = type_stays t
