-- What is written of a value has no floating point number.
use Rattle.std.proofs.Common.{◌≡◌, ◌-◌, ℕ, zero, suc, ℤ, Bool, true, false, ◌||◌, List, [], ◌∷◌, ◌++◌, map, length, take, drop, Option, Some, None, nat_lt, slice_get, if◌then◌else◌, refl, subst, Less, Equal, Greater}
use Rattle.std.specs.Global.{Global}
use Rattle.std.specs.Prelude.{Result, Ok, Err, IfOk, String, string_bytes, pos, negsuc}
use Rattle.std.specs.Ordering.{nat_cmp, match_ordering}
use Rattle.std.specs.Cmp.Lexicographic.{slice_cmp}
use Rattle.serde_json.specs.Data as json
use Rattle.serde_json.specs.Data.{Data, Members, no_members, member, put, number}
use Rattle.serde_json.specs.Find.{is_float, of_integer}
use Rattle.serde_json.specs.View.{items_of}
use Rattle.serde_json.specs.Written.{has_float, items_have_float, members_have_float, compact_text}
use Rattle.asn_values.specs.Datum.{Datum, truth, item, bit_list, octet_list, characters, unicode, components, elements, alternative, component_list, element_list}
use Rattle.asn_values.specs.Datum as datum
use Rattle.asn_values.specs.Shape.{Shape, integer, enumerated, bit_string, octet_string, restricted, utf8_string, sequence, sequence_of, choice, Fields, no_fields, field, MoreFields, closed, marked, demands, Alternatives, no_alternatives, one_of, MoreAlternatives, closed_choice, marked_choice, count, more_labels}
use Rattle.asn_values.specs.Shape as shape
use Rattle.asn_values.specs.Fits.{in_range}
use Rattle.asn_json.specs.Written.{json_of, json_truth, json_number, json_item, json_name, json_bits, json_octets, json_characters, json_unicode, json_alternative, json_addition, members, added_members, with_member, integers, label_names}

either_false : (a b : Bool) → a || b ≡ false → (a ≡ false) × (b ≡ false)
either_false true b e = cc
either_false false b e = (refl, e)

both_false : (a b : Bool) → a ≡ false → b ≡ false → a || b ≡ false
both_false a b d e = rw (d, e) refl

-- ---- members

put_plain : (k : List ℕ) (d : Data) (ms : Members) → has_float d ≡ false → members_have_float ms ≡ false → members_have_float (put k d ms) ≡ false
put_plain k d no_members a b = rw a refl
put_plain k d (member l e ms) a b =
    let parts = either_false (has_float e) (members_have_float ms) b in
    let here = both_false (has_float d) (has_float e || members_have_float ms) a b in
    let there = both_false (has_float d) (members_have_float ms) a parts.1 in
    let later = both_false (has_float e) (members_have_float (put k d ms)) parts.0 (put_plain k d ms a parts.1) in
    elim (slice_cmp nat_cmp k l) as (λ o. members_have_float (match_ordering o (member k d (member l e ms)) (member l d ms) (member l e (put k d ms))) ≡ false)
    [ Less ↦ here | Equal ↦ there | Greater ↦ later ]

with_plain : (name : List ℕ) (f : Datum → Data) → ((d : Datum) → has_float (f d) ≡ false) → (e : Option Datum) (ms : Members) → members_have_float ms ≡ false → members_have_float (with_member name f e ms) ≡ false
with_plain name f p None ms h = h
with_plain name f p (Some d) ms h = put_plain name (f d) ms (p d) h

each_plain : (f : Datum → Data) → ((d : Datum) → has_float (f d) ≡ false) → (ds : List Datum) → items_have_float (items_of (map f ds)) ≡ false
each_plain f p [] = refl
each_plain f p (d ∷ ds) = both_false (has_float (f d)) (items_have_float (items_of (map f ds))) (p d) (each_plain f p ds)

-- ---- types without parts

integer_plain : (z : ℤ) → is_float (of_integer z) ≡ false
integer_plain (pos n) = refl
integer_plain (negsuc n) = refl

number_plain : (d : Datum) → has_float (json_number d) ≡ false
number_plain (datum.number z) = elim (in_range integers z) as (λ b. has_float (if b then number (of_integer z) else json.null) ≡ false) [ true ↦ integer_plain z | false ↦ refl ]
number_plain _ = refl

truth_plain : (d : Datum) → has_float (json_truth d) ≡ false
truth_plain (truth b) = refl
truth_plain _ = refl

name_plain : (o : Option (List ℕ)) → has_float (json_name o) ≡ false
name_plain None = refl
name_plain (Some name) = refl

item_plain : (names : List (List ℕ)) (d : Datum) → has_float (json_item names d) ≡ false
item_plain names (item p) = name_plain (slice_get names p)
item_plain names _ = refl

bits_plain : (d : Datum) → has_float (json_bits d) ≡ false
bits_plain (bit_list bs) = refl
bits_plain _ = refl

octets_plain : (d : Datum) → has_float (json_octets d) ≡ false
octets_plain (octet_list os) = refl
octets_plain _ = refl

characters_plain : (d : Datum) → has_float (json_characters d) ≡ false
characters_plain (characters cs) = refl
characters_plain _ = refl

unicode_plain : (d : Datum) → has_float (json_unicode d) ≡ false
unicode_plain (unicode os) = refl
unicode_plain _ = refl

-- ---- all types

mutual
  pub plain : (t : Shape) (d : Datum) → has_float (json_of t d) ≡ false
  plain shape.boolean d = truth_plain d
  plain shape.null d = refl
  plain (integer b) d = number_plain d
  plain (enumerated root more) d = item_plain (label_names (root ++ more_labels more)) d
  plain (bit_string s) d = bits_plain d
  plain (octet_string s) d = octets_plain d
  plain (restricted k s) d = characters_plain d
  plain utf8_string d = unicode_plain d
  plain (sequence root more) (components es) =
      added_plain more (drop (length (demands root)) (component_list es)) (members root (take (length (demands root)) (component_list es)) no_members) (members_plain root (take (length (demands root)) (component_list es)) no_members refl)
  plain (sequence root more) _ = refl
  plain (sequence_of t s) (elements ds) = each_plain (λ d. json_of t d) (λ d. plain t d) (element_list ds)
  plain (sequence_of t s) _ = refl
  plain (choice root more) (alternative tag d) =
      elim (nat_lt tag (count root)) as (λ b. has_float (if b then json_alternative root tag d else json_addition more (tag - count root) d) ≡ false)
      [ true ↦ alternative_plain root tag d | false ↦ addition_plain more (tag - count root) d ]
  plain (choice root more) _ = refl

  members_plain : (fs : Fields) (es : List (Option Datum)) (ms : Members) → members_have_float ms ≡ false → members_have_float (members fs es ms) ≡ false
  members_plain no_fields es ms h = h
  members_plain (field name demand t fs) [] ms h = h
  members_plain (field name demand t fs) (e ∷ es) ms h = members_plain fs es (with_member name (λ d. json_of t d) e ms) (with_plain name (λ d. json_of t d) (λ d. plain t d) e ms h)

  added_plain : (more : MoreFields) (es : List (Option Datum)) (ms : Members) → members_have_float ms ≡ false → members_have_float (added_members more es ms) ≡ false
  added_plain closed es ms h = h
  added_plain (marked fs) es ms h = members_plain fs es ms h

  alternative_plain : (alts : Alternatives) (p : ℕ) (d : Datum) → has_float (json_alternative alts p d) ≡ false
  alternative_plain no_alternatives p d = refl
  alternative_plain (one_of name t alts) zero d = both_false (has_float (json_of t d)) false (plain t d) refl
  alternative_plain (one_of name t alts) (suc p) d = alternative_plain alts p d

  addition_plain : (more : MoreAlternatives) (p : ℕ) (d : Datum) → has_float (json_addition more p d) ≡ false
  addition_plain closed_choice p d = refl
  addition_plain (marked_choice alts) p d = alternative_plain alts p d

-- ---- its text

-- the text that is written of JSON without floating point numbers, for the JSON of a value
pub text_plain : {E : Type 0} (r : Result (String Global) E) (t : Shape) (v : Datum) (j : Data) → j ≡ json_of t v → IfOk r (λ s. has_float j ≡ false → string_bytes s ≡ compact_text j)
    → IfOk r (λ s. string_bytes s ≡ compact_text (json_of t v))
text_plain (Ok s) t v j e h = subst (λ d. string_bytes s ≡ compact_text d) e (h (rw e (plain t v)))
text_plain (Err x) t v j e h = tt
