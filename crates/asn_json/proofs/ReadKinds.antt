-- What is read of the parts of a SEQUENCE, a SEQUENCE OF and a CHOICE is what is read of the whole; and what types of the
-- profile have inside.
use Rattle.std.proofs.Common.{◌≡◌, ◌<◌, ◌≤◌, ◌+◌, ◌-◌, ℕ, zero, suc, true, false, ◌||◌, List, [], ◌∷◌, ◌++◌, map, length, get_or, Option, Some, option_map, option_and_then, Result, Ok, Err, IfOk, IsOkAnd, Vec, Global, nat_lt, refl, ap, ◌∙◌, arith}
use Rattle.std.specs.Global.{Box}
use Rattle.std.proofs.lemmas.Bool.{le-ltb, lt-ltb, ltb-false}
use Rattle.serde_json.specs.Data.{Data, Items, Members}
use Rattle.serde_json.specs.Find.{as_array, as_object}
use Rattle.asn_values.specs.declared.types.Alt.{Alt}
use Rattle.asn_values.specs.declared.types.Field.{Field}
use Rattle.asn_values.specs.declared.types.Size.{Size}
use Rattle.asn_values.specs.declared.types.AsnType.{AsnType, Seq, SeqOf, Choice}
use Rattle.asn_values.specs.declared.value.Value.{Value}
use Rattle.asn_values.specs.declared.value.Value.TheVariants as value
use Rattle.asn_values.specs.Datum.{Datum, elements, elements_of, alternative}
use Rattle.asn_values.specs.Shape.{sequence, sequence_of, choice, enumerated, Label, MoreLabels, more_labels, Fields, MoreFields, more_fields, closed, marked, Alternatives, MoreAlternatives, closed_choice, marked_choice, more_alternatives, count}
use Rattle.asn_values.specs.Parts.{AreOfProfile, AreAllOfProfile}
use Rattle.asn_values.specs.Profile.{InProfile, TooMany, somewhere, some_alternative, some_more, too_many_here, most_nodes, most_items, most_item_additions, most_alternatives}
use Rattle.asn_values.specs.Measures.{nodes}
use Rattle.asn_values.specs.View.{shape_of, datum_of, fields_of, part_of_field, more_fields_of, alternatives_of, branch_of, more_alternatives_of}
use Rattle.asn_values.proofs.Alternatives.{count-of, shape_of_branch}
use Rattle.asn_values.proofs.InnerTypes.{additions_of_profile, added_alternatives_of_profile}
use Rattle.asn_values.proofs.Parts.{left_false}
use Rattle.asn_values.proofs.Views.{sequence_of_fields, list_of_elements, choice_of_alternatives, datum_of-Seq, datum_of-List}
use Rattle.asn_json.specs.declared.fault.JsonFault.{JsonFault}
use Rattle.asn_json.specs.Errors.{errors, errors_at, added_errors_at, field_errors, added_errors, unknown_errors}
use Rattle.asn_view.specs.Names.{index_of}
use Rattle.asn_json.specs.Paths.{here, below, to_member}
use Rattle.asn_json.specs.Readers.{TellsFirst, Shows, ShowsAfter, ShowsElements, ShowsAt}
use Rattle.asn_json.specs.Shown.{value_of, value_at, added_value_at, added_entries, single, choice_names, component_names}
use Rattle.asn_json.proofs.Firsts.{tells_front}

-- ---- a SEQUENCE

-- the additions, where there are some: their entries come after those of the root
pub record ShowsAdded (more : MoreFields) (ms : Members) (given es : List (Option Datum)) : Type 0 where
  pub no_errors : added_errors more ms ≡ []
  pub is : es ≡ given ++ added_entries more ms

module _ (t : AsnType) (root : Vec Field Global) (ext : Option (Vec Field Global)) (fs : List Field) (j : Data) (ms : Members) (et : t ≡ Seq root ext) (ef : fs ≡ root.items) (ej : as_object j ≡ Some ms) where
  type : shape_of t ≡ sequence (fields_of (map part_of_field fs)) (more_fields_of ext)
  type = sequence_of_fields t root ext fs et ef

  unknown : List (List ℕ)
  unknown = unknown_errors (component_names (fields_of (map part_of_field fs)) (more_fields_of ext)) ms

  pub sequence_shown : (v : Vec (Option Value) Global) (root_entries es : List (Option Datum)) → ShowsAfter (fields_of (map part_of_field fs)) ms [] root_entries → ShowsAdded (more_fields_of ext) ms root_entries es
      → unknown_errors (component_names (fields_of (map part_of_field fs)) (more_fields_of ext)) ms ≡ [] → es ≡ map (option_map datum_of) v.items → Shows (shape_of t) j (datum_of (value.Seq v))
  sequence_shown v root_entries es first then known is = record {
    no_errors = rw (type, ej, first.no_errors, then.no_errors) known;
    is = rw (type, ej, datum_of-Seq, ← is, then.is, first.is) refl;
  }

  pub root_refused : (f : JsonFault) → TellsFirst (field_errors (fields_of (map part_of_field fs)) ms) f → TellsFirst (errors (shape_of t) j) f
  root_refused f s = rw (type, ej) (tells_front f (field_errors (fields_of (map part_of_field fs)) ms) _ s)

  pub added_refused : (f : JsonFault) (root_entries : List (Option Datum)) → ShowsAfter (fields_of (map part_of_field fs)) ms [] root_entries → TellsFirst (added_errors (more_fields_of ext) ms) f → TellsFirst (errors (shape_of t) j) f
  added_refused f root_entries first s = rw (type, ej, first.no_errors) (tells_front f (added_errors (more_fields_of ext) ms) _ s)

-- ---- a SEQUENCE OF

pub list_shown : (t e : AsnType) (b : Box AsnType) (size : Size) (v : Vec Value Global) (j : Data) (ds : Items) → t ≡ SeqOf b size → e ≡ b.value → as_array j ≡ Some ds
    → ShowsElements (shape_of e) ds (map datum_of v.items) → Shows (shape_of t) j (datum_of (value.List v))
list_shown t e b size v j ds et ee ej s =
    let type : shape_of t ≡ sequence_of (shape_of e) (_) = list_of_elements t e b size et ee in
    record {
      no_errors = rw (type, ej) s.no_errors;
      is = rw (type, ej, datum_of-List) (ap (λ vs. elements (elements_of vs)) s.is);
    }

-- ---- alternatives

module _ (j : Data) where
  -- the one at an index
  pub errors_here : (alts : List Alt) (i : ℕ) (x : Alt) → i < length alts → x ≡ get_or alts i x → errors_at (alternatives_of (map branch_of alts)) i j ≡ errors (shape_of x.ty) j
  errors_here [] i x h e = absurd (omega arith)
  errors_here (a ∷ alts) zero x h e = rw (e, shape_of_branch a) refl
  errors_here (a ∷ alts) (suc i) x h e = errors_here alts i x (omega arith) e

  pub value_here : (alts : List Alt) (i : ℕ) (x : Alt) → i < length alts → x ≡ get_or alts i x → value_at (alternatives_of (map branch_of alts)) i j ≡ value_of (shape_of x.ty) j
  value_here [] i x h e = absurd (omega arith)
  value_here (a ∷ alts) zero x h e = rw (e, shape_of_branch a) refl
  value_here (a ∷ alts) (suc i) x h e = value_here alts i x (omega arith) e

  pub errors_past : (alts : List Alt) (i : ℕ) → length alts ≤ i → errors_at (alternatives_of (map branch_of alts)) i j ≡ here
  errors_past [] i h = refl
  errors_past (a ∷ alts) zero h = absurd (omega arith)
  errors_past (a ∷ alts) (suc i) h = errors_past alts i (omega arith)

-- ---- a CHOICE

module _ (t : AsnType) (root : Vec Alt Global) (ext : Option (Vec Alt Global)) (alts : List Alt) (j e : Data) (name : List ℕ) (p : ℕ) (et : t ≡ Choice root ext) (ea : alts ≡ root.items)
    (ej : option_and_then single (as_object j) ≡ Some (name, e)) (ep : index_of name (choice_names (alternatives_of (map branch_of alts)) (more_alternatives_of ext)) ≡ Some p) where
  choice_type : shape_of t ≡ choice (alternatives_of (map branch_of alts)) (more_alternatives_of ext)
  choice_type = choice_of_alternatives t root ext alts et ea

  module _ (v : Datum) where
    pub root_shown : (w : Datum) → p < length alts → ShowsAt (alternatives_of (map branch_of alts)) p e w → v ≡ alternative p w → Shows (shape_of t) j v
    root_shown w h s is =
        let inside : nat_lt p (count (alternatives_of (map branch_of alts))) ≡ true = rw (count-of alts) (lt-ltb p (length alts) h) in
        record {
          no_errors = rw (choice_type, ej, ep, inside) (ap (below (to_member name)) s.no_errors);
          is = rw (choice_type, ej, ep, inside) (is ∙ ap (alternative p) s.is);
        }

    pub added_shown : (w : Datum) → length alts ≤ p → added_errors_at (more_alternatives_of ext) (p - length alts) e ≡ [] → w ≡ added_value_at (more_alternatives_of ext) (p - length alts) e → v ≡ alternative p w → Shows (shape_of t) j v
    added_shown w h none s is =
        let outside : nat_lt p (count (alternatives_of (map branch_of alts))) ≡ false = rw (count-of alts) (le-ltb p (length alts) h) in
        record {
          no_errors = rw (choice_type, ej, ep, outside, count-of alts) (ap (below (to_member name)) none);
          is = rw (choice_type, ej, ep, outside, count-of alts) (is ∙ ap (alternative p) s);
        }

  module _ (f : JsonFault) where
    pub alternative_refused : p < length alts → TellsFirst (below (to_member name) (errors_at (alternatives_of (map branch_of alts)) p e)) f → TellsFirst (errors (shape_of t) j) f
    alternative_refused h s =
        let inside : nat_lt p (count (alternatives_of (map branch_of alts))) ≡ true = rw (count-of alts) (lt-ltb p (length alts) h) in
        rw (choice_type, ej, ep, inside) s

    pub addition_refused : length alts ≤ p → TellsFirst (below (to_member name) (added_errors_at (more_alternatives_of ext) (p - length alts) e)) f → TellsFirst (errors (shape_of t) j) f
    addition_refused h s =
        let outside : nat_lt p (count (alternatives_of (map branch_of alts))) ≡ false = rw (count-of alts) (le-ltb p (length alts) h) in
        rw (choice_type, ej, ep, outside, count-of alts) s

-- what was read of the alternative, where a CHOICE was read
pub alternative_read : (r : Result Value JsonFault) (P : Value → Type 0) (Q : Value → Type 0) (R : Type 0) → ((w : Value) → P w → Q w → R) → IfOk r P → IsOkAnd r Q → R
alternative_read (Ok w) P Q R f p q = f w p q
alternative_read (Err e) P Q R f p q = absurd q

-- ---- types of the profile

pub good_here : (alts : List Alt) (i : ℕ) (x : Alt) → i < length alts → x ≡ get_or alts i x → AreAllOfProfile (alternatives_of (map branch_of alts)) → InProfile (shape_of x.ty)
good_here [] i x h e good = absurd (omega arith)
good_here (a ∷ alts) zero x h e good = rw (e, ← shape_of_branch a) good.0
good_here (a ∷ alts) (suc i) x h e good = good_here alts i x (omega arith) e good.1

pub added_components : (root : Fields) (more : MoreFields) → InProfile (sequence root more) → AreOfProfile (more_fields more)
added_components root closed good = tt
added_components root (marked fs) good = additions_of_profile root fs good

pub added_alternatives : (root : Alternatives) (more : MoreAlternatives) → InProfile (choice root more) → AreAllOfProfile (more_alternatives more)
added_alternatives root closed_choice good = tt
added_alternatives root (marked_choice alts) good = added_alternatives_of_profile root alts good

pub few_items : (root : List Label) (more : MoreLabels) → InProfile (enumerated root more) → length root + length (more_labels more) ≤ 256
few_items root more good =
    let whole = enumerated root more in
    let many = left_false (too_many_here whole) (nat_lt most_nodes (nodes whole)) (good TooMany) in
    ltb-false most_items (length root + length (more_labels more)) (left_false (nat_lt most_items (length root + length (more_labels more))) (nat_lt most_item_additions (length (more_labels more))) many)

pub few_alternatives : (root : Alternatives) (more : MoreAlternatives) → InProfile (choice root more) → count root + count (more_alternatives more) ≤ most_alternatives
few_alternatives root more good =
    let whole = choice root more in
    let many = left_false (somewhere too_many_here whole) (nat_lt most_nodes (nodes whole)) (good TooMany) in
    ltb-false most_alternatives (count root + count (more_alternatives more)) (left_false (too_many_here whole) (some_alternative too_many_here root || some_more too_many_here more) many)
