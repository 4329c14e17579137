-- What is written of a value of a type of the profile is read back: by induction on the type.
use Rattle.std.proofs.Common.{◌≡◌, ◌<◌, ◌≤◌, ◌+◌, ◌-◌, ℕ, zero, suc, ℤ, ◌≤ℤ◌, Bool, true, false, not, ◌||◌, List, [], ◌∷◌, ◌++◌, map, length, take, drop, Some, nat_lt, slice_get, bytes_eq, append_assoc, refl, sym, ap, ◌∙◌, arith}
use Rattle.std.specs.Prelude.{MatchBool}
use Rattle.std.specs.List.{AllByRecursion, list_all}
use Rattle.std.specs.Int.RustNames.{int_le}
use Rattle.std.proofs.lemmas.Bool.{ltb-true, ltb-false}
use Rattle.std.proofs.lemmas.Int.{ints}
use Rattle.std.proofs.lemmas.List.{length-map, length-append}
use Rattle.hex.specs.Hex.{decode_of, encode_lower}
use Rattle.hex.proofs.HexLemmas.{decode_of-encode_lower}
use Rattle.serde_json.specs.Data.{Data, object, Members, no_members, member}
use Rattle.serde_json.specs.View.{items_of}
use Rattle.asn_values.specs.Datum.{Datum, truth, nothing, number, bit_list, octet_list, characters, unicode, components, components_of, component_list, elements, elements_of, element_list, alternative, Components, no_components, absent, present, Elements, no_elements, element}
use Rattle.asn_values.specs.Datum as datum
use Rattle.asn_values.specs.Shape.{Range, Shape, boolean, null, integer, enumerated, bit_string, octet_string, restricted, utf8_string, sequence, sequence_of, choice, Label, more_labels, MoreLabels, demands, Fields, no_fields, field, MoreFields, closed, marked, more_fields, field_names, append_fields, Alternatives, no_alternatives, one_of, MoreAlternatives, closed_choice, marked_choice, more_alternatives, alternative_names, count}
use Rattle.asn_values.specs.Fits.{Fits, FitsEach, FitsNumber, FitsAlternative, FitsMoreAlternatives, lowest_integer, highest_integer, in_range}
use Rattle.asn_values.specs.Parts.{AreOfProfile, AreAllOfProfile}
use Rattle.asn_values.specs.Profile.{InProfile, DuplicateName, some_field, some_addition, some_alternative, some_more, duplicate_name, has_twice, is_identifier}
use Rattle.asn_values.proofs.InnerTypes.{element_of_profile, root_alternatives_of_profile}
use Rattle.asn_values.proofs.Parts.{left_false, components_of_profile}
use Rattle.asn_json.specs.Errors.{errors, errors_at, added_errors_at, element_errors, field_errors, unknown_errors}
use Rattle.asn_json.specs.Readers.{Shows}
use Rattle.asn_json.specs.Shown.{value_of, value_at, added_value_at, entries, item_list, choice_names, component_names}
use Rattle.asn_json.specs.Written.{json_of, json_alternative, json_addition, members, added_members, label_names, integers}
use Rattle.asn_json.proofs.Distinct.{index_of_name, name_at, all_among}
use Rattle.asn_json.proofs.LeavesBack.{integer_back, bits_back, octets_are_bytes, characters_back}
use Rattle.asn_json.proofs.MembersBack.{names_append, errors_append, entries_append, members_append, fits_append, fits_more, members_more, errors_more, entries_more, all_written, all_known, AreBack, back_append, each_back}
use Rattle.asn_json.proofs.TwoLists.{first_part, second_part}
use Rattle.asn_json.proofs.NameIndexes.{many_names}
use Rattle.asn_json.proofs.ReadKinds.{added_components, added_alternatives}

-- what is written of a value is read back
abbrev pub IsBack : Shape → Datum → Type 0
IsBack t v = Shows t (json_of t v) v

-- ---- names are distinct

distinct_labels : (root : List Label) (more : MoreLabels) → InProfile (enumerated root more) → has_twice bytes_eq (label_names (root ++ more_labels more)) ≡ false
distinct_labels root more good = left_false (has_twice bytes_eq (label_names (root ++ more_labels more))) (not (list_all is_identifier (label_names (root ++ more_labels more)))) (good DuplicateName)

distinct_components : (root : Fields) (more : MoreFields) → InProfile (sequence root more) → has_twice bytes_eq (component_names root more) ≡ false
distinct_components root more good =
    let here = left_false (duplicate_name (sequence root more)) (some_field duplicate_name root || some_addition duplicate_name more) (good DuplicateName) in
    left_false (has_twice bytes_eq (component_names root more)) (not (list_all is_identifier (component_names root more))) here

distinct_alternatives : (root : Alternatives) (more : MoreAlternatives) → InProfile (choice root more) → has_twice bytes_eq (choice_names root more) ≡ false
distinct_alternatives root more good =
    let here = left_false (duplicate_name (choice root more)) (some_alternative duplicate_name root || some_more duplicate_name more) (good DuplicateName) in
    left_false (has_twice bytes_eq (choice_names root more)) (not (list_all is_identifier (choice_names root more))) here

-- ---- types without parts

test_of_le : (a b : ℤ) → a ≤ℤ b → int_le a b ≡ true
test_of_le a b h = grind (arith, ints)

integer_inside : (z : ℤ) → lowest_integer ≤ℤ z → z ≤ℤ highest_integer → in_range integers z ≡ true
integer_inside z low high = rw (test_of_le lowest_integer z low, test_of_le z highest_integer high) refl

number_back : (b : Range) (z : ℤ) → FitsNumber b z → IsBack (integer b) (number z)
number_back b z h =
    let inside = integer_inside z h.0 h.1 in
    record { no_errors = rw (inside, integer_back z, inside) refl; is = rw (inside, integer_back z, inside) refl }

item_back : (root : List Label) (more : MoreLabels) (p : ℕ) → InProfile (enumerated root more) → p < length root + length (more_labels more) → IsBack (enumerated root more) (datum.item p)
item_back root more p good h =
    let names = label_names (root ++ more_labels more) in
    let many : length names ≡ length root + length (more_labels more) = length-map (root ++ more_labels more) (λ l. l.name) ∙ length-append root (more_labels more) in
    let named = name_at names p (omega arith) in
    let index = index_of_name names p named.0 (distinct_labels root more good) named.1 in
    record { no_errors = rw (named.1, index) refl; is = rw (named.1, index) refl }

-- ---- a SEQUENCE

components_again : (cs : Components) → components_of (component_list cs) ≡ cs
components_again no_components = refl
components_again (absent cs) = ap absent (components_again cs)
components_again (present d cs) = ap (present d) (components_again cs)

sequence_back : (root : Fields) (more : MoreFields) (cs : Components) → InProfile (sequence root more) → AreBack root → AreBack (more_fields more) → Fits (sequence root more) (components cs) → IsBack (sequence root more) (components cs)
sequence_back root more cs good b c h =
    let es = component_list cs in
    let both = append_fields root (more_fields more) in
    let n = length (demands root) in
    let ms : Members = members both es no_members in
    let is : added_members more (drop n es) (members root (take n es) no_members) ≡ ms = members_more more (drop n es) (members root (take n es) no_members) ∙ sym (members_append root (more_fields more) es no_members) in
    let names : field_names both ≡ component_names root more = names_append root (more_fields more) in
    let once : has_twice bytes_eq (field_names both) ≡ false = rw names (distinct_components root more good) in
    let fits : FitsEach both es = fits_append root (more_fields more) es h.0 (fits_more more (drop n es) h.1) in
    let read = each_back both es ms (back_append root (more_fields more) b c) fits (all_written both es once) in
    let known : unknown_errors (component_names root more) ms ≡ [] = rw (← names) (all_known (field_names both) both es no_members (all_among (field_names both)) refl) in
    let no_errors : field_errors root ms ++ field_errors (more_fields more) ms ≡ [] = sym (errors_append root (more_fields more) ms) ∙ read.0 in
    let values : entries root ms ++ entries (more_fields more) ms ≡ es = sym (entries_append root (more_fields more) ms) ∙ read.1 in
    record {
      no_errors = rw (is, errors_more more ms, ← append_assoc (field_errors root ms) (field_errors (more_fields more) ms) (unknown_errors (component_names root more) ms), no_errors) known;
      is = rw (is, entries_more more ms, values, components_again cs) refl;
    }

-- ---- a SEQUENCE OF

elements_again : (es : Elements) → elements_of (element_list es) ≡ es
elements_again no_elements = refl
elements_again (element d es) = ap (element d) (elements_again es)

elements_back : (t : Shape) (i : ℕ) (vs : List Datum) → ((v : Datum) → Fits t v → IsBack t v) → AllByRecursion (λ v. Fits t v) vs
    → (element_errors (λ e. errors t e) i (items_of (map (λ v. json_of t v) vs)) ≡ []) × (map (λ e. value_of t e) (item_list (items_of (map (λ v. json_of t v) vs))) ≡ vs)
elements_back t i [] b h = (refl, refl)
elements_back t i (v ∷ vs) b h =
    let first = b v h.0 in
    let rest = elements_back t (suc i) vs b h.1 in
    (rw (first.no_errors, rest.0) refl, rw (rest.1, ← first.is) refl)

list_back : (t : Shape) (es : Elements) → ((v : Datum) → Fits t v → IsBack t v) → AllByRecursion (λ v. Fits t v) (element_list es) → (element_errors (λ e. errors t e) 0 (items_of (map (λ v. json_of t v) (element_list es))) ≡ [])
    × (elements es ≡ elements (elements_of (map (λ e. value_of t e) (item_list (items_of (map (λ v. json_of t v) (element_list es)))))))
list_back t es b h =
    let all = elements_back t 0 (element_list es) b h in
    (all.0, sym (ap (λ vs. elements (elements_of vs)) all.1 ∙ ap elements (elements_again es)))

-- ---- a CHOICE

-- the alternative at an index: its name, and what is written of its value
pub record AlternativeBack (alts : Alternatives) (p : ℕ) (v : Datum) : Type 0 where
  pub name : List ℕ
  pub json : Data
  pub written : json_alternative alts p v ≡ object (member name json no_members)
  pub named : slice_get (alternative_names alts) p ≡ Some name
  pub no_errors : errors_at alts p json ≡ []
  pub is : v ≡ value_at alts p json

-- the additions, where there is a mark
fits_added : (more : MoreAlternatives) (p : ℕ) (v : Datum) → FitsMoreAlternatives more p v → FitsAlternative (more_alternatives more) p v
fits_added closed_choice p v h = absurd h
fits_added (marked_choice alts) p v h = h

json_added : (more : MoreAlternatives) (p : ℕ) (v : Datum) → json_addition more p v ≡ json_alternative (more_alternatives more) p v
json_added closed_choice p v = refl
json_added (marked_choice alts) p v = refl

errors_added : (more : MoreAlternatives) (p : ℕ) (j : Data) → added_errors_at more p j ≡ errors_at (more_alternatives more) p j
errors_added closed_choice p j = refl
errors_added (marked_choice alts) p j = refl

value_added : (more : MoreAlternatives) (p : ℕ) (j : Data) → added_value_at more p j ≡ value_at (more_alternatives more) p j
value_added closed_choice p j = refl
value_added (marked_choice alts) p j = refl

module _ (root : Alternatives) (more : MoreAlternatives) (tag : ℕ) (v : Datum) (good : InProfile (choice root more)) where
  -- in the root
  root_back : tag < count root → AlternativeBack root tag v → nat_lt tag (count root) ≡ true → IsBack (choice root more) (alternative tag v)
  root_back below_count a e =
      let named : slice_get (choice_names root more) tag ≡ Some a.name = first_part (alternative_names root) (alternative_names (more_alternatives more)) tag (rw (many_names root) below_count) ∙ a.named in
      let index = index_of_name (choice_names root more) tag a.name (distinct_alternatives root more good) named in
      rw (e, a.written) (record { no_errors = rw (index, e, a.no_errors) refl; is = rw (index, e) (ap (alternative tag) a.is) })

  -- in the additions
  added_back : count root ≤ tag → AlternativeBack (more_alternatives more) (tag - count root) v → nat_lt tag (count root) ≡ false → IsBack (choice root more) (alternative tag v)
  added_back above a e =
      let added_index = tag - count root in
      let named : slice_get (choice_names root more) tag ≡ Some a.name =
      second_part (alternative_names root) (alternative_names (more_alternatives more)) tag (rw (many_names root) above) ∙ ap (λ n. slice_get (alternative_names (more_alternatives more)) (tag - n)) (many_names root) ∙ a.named in
      let index = index_of_name (choice_names root more) tag a.name (distinct_alternatives root more good) named in
      rw (e, json_added more added_index v, a.written) (record {
        no_errors = rw (index, e, errors_added more added_index a.json, a.no_errors) refl;
        is = rw (index, e, value_added more added_index a.json) (ap (alternative tag) a.is);
      })

choice_back : (root : Alternatives) (more : MoreAlternatives) (tag : ℕ) (v : Datum) → InProfile (choice root more) → ((p : ℕ) (w : Datum) → FitsAlternative root p w → AlternativeBack root p w)
    → ((p : ℕ) (w : Datum) → FitsAlternative (more_alternatives more) p w → AlternativeBack (more_alternatives more) p w) → Fits (choice root more) (alternative tag v) → IsBack (choice root more) (alternative tag v)
choice_back root more tag v good b c h = at (nat_lt tag (count root)) refl h
  where
    at : (t : Bool) → nat_lt tag (count root) ≡ t → MatchBool t (FitsAlternative root tag v) (FitsMoreAlternatives more (tag - count root) v) → IsBack (choice root more) (alternative tag v)
    at true e f = root_back root more tag v good (ltb-true tag (count root) e) (b tag v f) e
    at false e f = added_back root more tag v good (ltb-false tag (count root) e) (c (tag - count root) v (fits_added more (tag - count root) v f)) e

-- ---- all types

mutual
  pub is_back : (t : Shape) (v : Datum) → InProfile t → Fits t v → IsBack t v
  is_back boolean (truth b) good h = record { no_errors = refl; is = refl }
  is_back boolean _ good h = absurd h
  is_back null nothing good h = record { no_errors = refl; is = refl }
  is_back null _ good h = absurd h
  is_back (integer b) (number z) good h = number_back b z h
  is_back (integer b) _ good h = absurd h
  is_back (enumerated root more) (datum.item p) good h = item_back root more p good h
  is_back (enumerated root more) _ good h = absurd h
  is_back (bit_string s) (bit_list bs) good h = record { no_errors = rw (bits_back bs) refl; is = rw (bits_back bs) refl }
  is_back (bit_string s) _ good h = absurd h
  is_back (octet_string s) (octet_list os) good h =
      let read : decode_of (encode_lower os) ≡ _ = decode_of-encode_lower os (octets_are_bytes os h.1) in
      record { no_errors = rw read refl; is = rw read refl }
  is_back (octet_string s) _ good h = absurd h
  is_back (restricted k s) (characters cs) good h = record { no_errors = refl; is = rw (characters_back k cs h.1) refl }
  is_back (restricted k s) _ good h = absurd h
  is_back utf8_string (unicode os) good h = record { no_errors = refl; is = refl }
  is_back utf8_string _ good h = absurd h
  is_back (sequence root more) (components cs) good h =
      sequence_back root more cs good (are_back root (components_of_profile root more good)) (more_are_back more (added_components root more good)) h
  is_back (sequence root more) _ good h = absurd h
  is_back (sequence_of t s) (elements es) good h =
      let read = list_back t es (λ v f. is_back t v (element_of_profile t s good) f) h.1 in
      record { no_errors = read.0; is = read.1 }
  is_back (sequence_of t s) _ good h = absurd h
  is_back (choice root more) (alternative tag v) good h =
      choice_back root more tag v good (λ p w f. alternatives_back root p w (root_alternatives_of_profile root more good) f) (λ p w f. more_back more p w (added_alternatives root more good) f) h
  is_back (choice root more) _ good h = absurd h

  are_back : (fs : Fields) → AreOfProfile fs → AreBack fs
  are_back no_fields good = tt
  are_back (field name d t fs) good = (λ v f. is_back t v good.0 f, are_back fs good.2)

  more_are_back : (more : MoreFields) → AreOfProfile (more_fields more) → AreBack (more_fields more)
  more_are_back closed good = tt
  more_are_back (marked fs) good = are_back fs good

  alternatives_back : (alts : Alternatives) (p : ℕ) (v : Datum) → AreAllOfProfile alts → FitsAlternative alts p v → AlternativeBack alts p v
  alternatives_back no_alternatives p v good h = absurd h
  alternatives_back (one_of name t alts) zero v good h =
      let back = is_back t v good.0 h in
      record { name = name; json = json_of t v; written = refl; named = refl; no_errors = back.no_errors; is = back.is }
  alternatives_back (one_of name t alts) (suc p) v good h =
      let back = alternatives_back alts p v good.1 h in
      record { name = back.name; json = back.json; written = back.written; named = back.named; no_errors = back.no_errors; is = back.is }

  more_back : (more : MoreAlternatives) (p : ℕ) (v : Datum) → AreAllOfProfile (more_alternatives more) → FitsAlternative (more_alternatives more) p v → AlternativeBack (more_alternatives more) p v
  more_back closed_choice p v good h = absurd h
  more_back (marked_choice alts) p v good h = alternatives_back alts p v good h
