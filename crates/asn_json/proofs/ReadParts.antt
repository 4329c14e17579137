-- Where a reader of the parts of a JSON value stands: the components of a SEQUENCE, and the elements of a SEQUENCE OF.
use Rattle.std.proofs.Common.{◌≡◌, ◌<◌, ◌≤◌, ◌+◌, ℕ, suc, List, [], ◌∷◌, ◌++◌, map, length, drop, get_or, Option, refl, sym, ap, ◌∙◌, subst, append_assoc, append-nil, add-one}
use Rattle.std.proofs.lemmas.List.{drop_all}
use Rattle.std.proofs.Math.Seq.{drop-cons}
use Rattle.serde_json.specs.Data.{Data, Items, no_items, item, Members}
use Rattle.serde_json.specs.Find.{get_member}
use Rattle.serde_json.specs.View.{view, items_view}
use Rattle.serde_json.specs.declared.value.Value.{Value as Json}
use Rattle.asn_values.specs.declared.types.Field.{Field}
use Rattle.asn_values.specs.Datum.{Datum}
use Rattle.asn_values.specs.Shape.{Shape, Fields, no_fields, field}
use Rattle.asn_values.specs.Parts.{AreOfProfile}
use Rattle.asn_values.specs.View.{Part, fields_of, part_of_field}
use Rattle.asn_json.specs.declared.fault.JsonFault.{JsonFault}
use Rattle.asn_json.specs.Errors.{errors, field_errors, element_errors}
use Rattle.asn_json.specs.Paths.{below, to_element}
use Rattle.asn_json.specs.Readers.{TellsFirst, Shows, ShowsAfter, ShowsEntry, errors_of_entry, ShowsElements}
use Rattle.asn_json.specs.Shown.{value_of, entries, item_list}
use Rattle.asn_json.proofs.Firsts.{tells_front}

-- ---- components

-- some components are left: the errors are theirs, and their entries come after those that are there
pub record ReadUpTo (all : Fields) (ms : Members) (given : List (Option Datum)) (left : Fields) (es : List (Option Datum)) : Type 0 where
  pub errors_left : field_errors left ms ≡ field_errors all ms
  pub entries_left : es ++ entries left ms ≡ given ++ entries all ms
  pub good : AreOfProfile left

-- the components left are one and those after it
pub next_component : (fs : List Field) (i : ℕ) (x : Field) → i < length fs → x ≡ get_or fs i x
    → fields_of (map part_of_field (drop i fs)) ≡ field (part_of_field x).name (part_of_field x).demand (part_of_field x).shape (fields_of (map part_of_field (drop (i + 1) fs)))
next_component fs i x h e =
    let split : drop i fs ≡ x ∷ drop (i + 1) fs = rw (add-one, drop-cons fs i x h, ← e) refl in
    ap (λ gs. fields_of (map part_of_field gs)) split

module _ (all : Fields) (ms : Members) (given : List (Option Datum)) where
  pub component_read :
      (p : Part) (fs : Fields) (es after : List (Option Datum)) (e : Option Datum) → ReadUpTo all ms given (field p.name p.demand p.shape fs) es
      → ShowsEntry p (get_member p.name ms) e → after ≡ es ++ e ∷ [] → ReadUpTo all ms given fs after
  component_read p fs es after e h s is = record {
    errors_left = sym (ap (λ first. first ++ field_errors fs ms) s.no_errors) ∙ h.errors_left;
    entries_left = ap (λ xs. xs ++ entries fs ms) is ∙ append_assoc es (e ∷ []) (entries fs ms) ∙ ap (λ x. es ++ x ∷ entries fs ms) s.is ∙ h.entries_left;
    good = h.good.2;
  }

  pub component_stops :
      (p : Part) (fs : Fields) (es : List (Option Datum)) (f : JsonFault) → ReadUpTo all ms given (field p.name p.demand p.shape fs) es
      → TellsFirst (errors_of_entry p (get_member p.name ms)) f → TellsFirst (field_errors all ms) f
  component_stops p fs es f h s =
      let whole = tells_front f (errors_of_entry p (get_member p.name ms)) (field_errors fs ms) s in
      subst (λ paths. TellsFirst paths f) h.errors_left whole

  pub all_components_read : (left : Fields) (es : List (Option Datum)) → left ≡ no_fields → ReadUpTo all ms given left es → ShowsAfter all ms given es
  all_components_read left es none h = record {
    no_errors = sym (ap (λ fs. field_errors fs ms) (sym none) ∙ h.errors_left);
    is = sym (append-nil es) ∙ ap (λ fs. es ++ entries fs ms) (sym none) ∙ h.entries_left;
  }

pub no_component : (fs : List Field) (i : ℕ) → length fs ≤ i → fields_of (map part_of_field (drop i fs)) ≡ no_fields
no_component fs i h = ap (λ gs. fields_of (map part_of_field gs)) (drop_all i fs h)

-- ---- elements

-- some elements are left, the first with this index
pub record ElementsUpTo (t : Shape) (all : Items) (i : ℕ) (left : Items) (vs : List Datum) : Type 0 where
  pub errors_left : element_errors (λ e. errors t e) i left ≡ element_errors (λ e. errors t e) 0 all
  pub values_left : vs ++ map (λ e. value_of t e) (item_list left) ≡ map (λ e. value_of t e) (item_list all)

pub next_element : (js : List Json) (i : ℕ) (x : Json) → i < length js → x ≡ get_or js i x → items_view (drop i js) ≡ item (view x) (items_view (drop (i + 1) js))
next_element js i x h e =
    let split : drop i js ≡ x ∷ drop (i + 1) js = rw (add-one, drop-cons js i x h, ← e) refl in
    ap items_view split

pub no_element : (js : List Json) (i : ℕ) → length js ≤ i → items_view (drop i js) ≡ no_items
no_element js i h = ap items_view (drop_all i js h)

module _ (t : Shape) (all : Items) where
  pub element_read : (i : ℕ) (d : Data) (left : Items) (vs after : List Datum) (v : Datum) → ElementsUpTo t all i (item d left) vs → Shows t d v → after ≡ vs ++ v ∷ [] → ElementsUpTo t all (i + 1) left after
  element_read i d left vs after v h s is =
      let none : below (to_element i) (errors t d) ≡ [] = ap (below (to_element i)) s.no_errors in
      record {
        errors_left = rw add-one (sym (ap (λ first. first ++ element_errors (λ e. errors t e) (suc i) left) none) ∙ h.errors_left);
        values_left = ap (λ xs. xs ++ map (λ e. value_of t e) (item_list left)) is ∙ append_assoc vs (v ∷ []) (map (λ e. value_of t e) (item_list left)) ∙ ap (λ x. vs ++ x ∷ map (λ e. value_of t e) (item_list left)) s.is ∙ h.values_left;
      }

  pub element_stops : (i : ℕ) (d : Data) (left : Items) (vs : List Datum) (f : JsonFault) → ElementsUpTo t all i (item d left) vs → TellsFirst (below (to_element i) (errors t d)) f
      → TellsFirst (element_errors (λ e. errors t e) 0 all) f
  element_stops i d left vs f h s =
      let whole = tells_front f (below (to_element i) (errors t d)) (element_errors (λ e. errors t e) (suc i) left) s in
      subst (λ paths. TellsFirst paths f) h.errors_left whole

  pub all_elements_read : (i : ℕ) (left : Items) (vs : List Datum) → left ≡ no_items → ElementsUpTo t all i left vs → ShowsElements t all vs
  all_elements_read i left vs none h = record {
    no_errors = sym (ap (λ ds. element_errors (λ e. errors t e) i ds) (sym none) ∙ h.errors_left);
    is = sym (append-nil vs) ∙ ap (λ ds. vs ++ map (λ e. value_of t e) (item_list ds)) (sym none) ∙ h.values_left;
  }
