use Rattle.std.proofs.Common.{◌≡◌, ◌<◌, ◌≤◌, ◌+◌, ◌-◌, ◌∙◌, [], ◌∷◌, ◌++◌, Some, List, ℕ, option_and_then, map, drop, length, string_bytes, append-nil, rules, refl, sym, ap, arith}
use Rattle.std.specs.Option.{option_map}
use Rattle.std.proofs.lemmas.List.{map-append, length-map}
use Rattle.std.proofs.lemmas.Result.{err_from_is_err_and, IfOk-weaker, IfErr-weaker}
use Rattle.std.specs.Result.{IfOk, IfErr, IsOkAnd}
use Rattle.serde_json.specs.Find.{as_array, as_object, get_member}
use Rattle.serde_json.specs.View.{view, items_view, members_view}
use Rattle.asn_values.specs.declared.types.AsnType.{the_lemmas}
use Rattle.asn_values.specs.Datum.{alternative}
use Rattle.asn_values.specs.Shape.{enumerated, sequence, sequence_of, choice, marked_choice, closed_choice}
use Rattle.asn_values.specs.View.{shape_of, datum_of, label_of, more_labels_of, size_range_of, fields_of, part_of_field, more_fields_of, alternatives_of, branch_of, more_alternatives_of}
use Rattle.asn_values.proofs.Alternatives.{count-of}
use Rattle.asn_values.proofs.Components.{shape_of_part}
use Rattle.asn_values.proofs.InnerTypes.{element_of_profile, root_alternatives_of_profile}
use Rattle.asn_values.proofs.Parts.{components_of_profile}
use Rattle.asn_values.proofs.Views.{shape_of-Enum, sequence_of_fields, list_of_elements, choice_of_alternatives}
use Rattle.asn_json.specs.Errors.{errors, errors_at}
use Rattle.asn_view.specs.Names.{index_of}
use Rattle.asn_json.specs.Paths.{here, below, to_member}
use Rattle.asn_json.specs.Readers.{TellsFirst, Shows, ShowsAfter, ShowsAt}
use Rattle.asn_json.specs.Shown.{choice_names, single}
use Rattle.asn_json.proofs.ReadKinds.{ShowsAdded, sequence_shown, root_refused, added_refused, list_shown, errors_here, value_here, errors_past, good_here, added_components, added_alternatives, few_items, few_alternatives, root_shown, added_shown, alternative_refused, addition_refused, alternative_read}
use Rattle.asn_json.proofs.ReadParts.{next_component, component_read, component_stops, next_element, element_stops}
use Rattle.asn_json.proofs.read.+reader.Goals as goal
use Rattle.asn_json.proofs.read.+reader.Goals.{read-in-Some-ext+in_ok-entries-in-Some-ext, read-in-None}

pub read_entries-loop-field-preserved : goal.read_entries-loop-field-preserved
read_entries-loop-field-preserved t c =
    let fs = c.args.fields.now in
    let i = c.loop-field.field-index in
    let x = c.field-item.result in
    let ms = members_view c.args.object.now.entries in
    let given = map (option_map datum_of) c.args.given.items in
    let es = map (option_map datum_of) c.loop-field.all.items in
    let h = rw (next_component fs i x c.loop-field-test.true c.field-item.is) at c.loop-field.invariant in
    let items : map (option_map datum_of) c.push.new.self.items ≡ es ++ option_map datum_of c.in_ok-entry.entry ∷ [] =
    ap (map (option_map datum_of)) c.in_ok-push.ensures.items ∙ map-append (option_map datum_of) c.loop-field.all.items (c.in_ok-entry.entry ∷ []) in
    component_read (fields_of (map part_of_field fs)) ms given (part_of_field x) (fields_of (map part_of_field (drop (i + 1) fs))) es _ (option_map datum_of c.in_ok-entry.entry)
    h c.in_ok-entry.ensures.shown items

pub read_entries-read_entry-requires : goal.read_entries-read_entry-requires
read_entries-read_entry-requires t c =
    let h = rw (next_component c.args.fields.now c.loop-field.field-index c.field-item.result c.loop-field-test.true c.field-item.is) at c.loop-field.invariant in
    (search (rules, the_lemmas), (h.good.0, h.good.1))

pub read_entries-returns-in_err-entry-clause-refused : goal.read_entries-returns-in_err-entry-clause-refused
read_entries-returns-in_err-entry-clause-refused t c =
    let fs = c.args.fields.now in
    let i = c.loop-field.field-index in
    let x = c.field-item.result in
    let ms = members_view c.args.object.now.entries in
    let h = rw (next_component fs i x c.loop-field-test.true c.field-item.is) at c.loop-field.invariant in
    let p = err_from_is_err_and c.from_residual.result c.from_residual.ensures.1 in
    rw (p.1, p.2) (component_stops (fields_of (map part_of_field fs)) ms (map (option_map datum_of) c.args.given.items) (part_of_field x) (fields_of (map part_of_field (drop (i + 1) fs)))
    (map (option_map datum_of) c.loop-field.all.items) _ h c.in_err-entry.ensures.refused)

pub read_elements-returns-in-Err-clause-refused : goal.read_elements-returns-in-Err-clause-refused
read_elements-returns-in-Err-clause-refused t c =
    let type = shape_of c.args.element.now in
    let js = c.args.items.now in
    let i = c.loop-index.index in
    let x = c.index-items-index.result in
    let h = rw (next_element js i x c.loop-index-test.true c.index-items-index.is) at c.loop-index.invariant in
    let refused : TellsFirst (errors type (view x)) c.in-Err.fault = c.in-Err.ensures.refused in
    element_stops type (items_view js) i (view x) (items_view (drop (i + 1) js)) (map datum_of c.loop-index.all.items) _ h (c.below_element.ensures (errors type (view x)) refused)

pub read_entry-returns-in-Err-clause-refused : goal.read_entry-returns-in-Err-clause-refused
read_entry-returns-in-Err-clause-refused t c =
    let field = c.args.field.now in
    let ms = members_view c.args.object.now.entries in
    let named : c.as_str.result.now ≡ string_bytes field.name = c.as_str.ensures.value in
    let named_there : c.as_str-in-Err.result.now ≡ string_bytes field.name = c.as_str-in-Err.ensures.value in
    let name : (part_of_field field).name ≡ string_bytes field.name = search (rules, the_lemmas) in
    let found : get_member (string_bytes field.name) ms ≡ Some (view c.in-Some.json.now) = ap (λ n. get_member n ms) (sym named) ∙ sym c.in-Some.ensures in
    rw (name, found, shape_of_part field, ← named_there) (c.below_member.ensures (errors (shape_of field.ty) (view c.in-Some.json.now)) c.in-Err.ensures.refused)

pub read-item_shown-requires : goal.read-item_shown-requires
read-item_shown-requires t c =
    let type : shape_of c.args.ty.now ≡ enumerated (map label_of c.deref.result.now) (more_labels_of c.in-Enum.ext) = rw (c.in-Enum.is, c.deref.ensures.value) (shape_of-Enum c.in-Enum.root c.in-Enum.ext) in
    let few = few_items (map label_of c.deref.result.now) (more_labels_of c.in-Enum.ext) (rw type at c.requires.of_profile) in
    record { few = rw length-map at few }

pub read-read_elements-requires : goal.read-read_elements-requires
read-read_elements-requires t c =
    let e = c.deref-in-Some-as_array.result.now in
    let type : shape_of c.args.ty.now ≡ sequence_of (shape_of e) (size_range_of c.in-SeqOf.field-1) = list_of_elements c.args.ty.now e c.in-SeqOf.element c.in-SeqOf.field-1 c.in-SeqOf.is c.deref-in-Some-as_array.ensures in
    let good = rw type at c.requires.of_profile in
    (search (rules, the_lemmas), element_of_profile (shape_of e) (size_range_of c.in-SeqOf.field-1) good)

pub read-returns-in_ok-read_elements-in-Some-as_array-clause-shown : goal.read-returns-in_ok-read_elements-in-Some-as_array-clause-shown
read-returns-in_ok-read_elements-in-Some-as_array-clause-shown t c =
    let js = c.deref-in-Some-as_array-2.result.now in
    let array : as_array (view c.args.json.now) ≡ Some (items_view js) = sym c.in-Some-as_array.ensures ∙ ap (λ xs. Some (items_view xs)) (sym c.deref-in-Some-as_array-2.ensures.value) in
    list_shown c.args.ty.now c.deref-in-Some-as_array.result.now c.in-SeqOf.element c.in-SeqOf.field-1 c.in_ok-read_elements-in-Some-as_array.field-0 (view c.args.json.now) (items_view js)
    c.in-SeqOf.is c.deref-in-Some-as_array.ensures array c.in_ok-read_elements-in-Some-as_array.ensures.shown

pub read_alternative-returns-then-index-alternatives-clause-refused : goal.read_alternative-returns-then-index-alternatives-clause-refused
read_alternative-returns-then-index-alternatives-clause-refused t c = rw (errors_past (view c.args.json.now) c.args.alternatives.now c.args.index c.if-index-alternatives.true) c.at_node.ensures

pub read_alternative-read-requires : goal.read_alternative-read-requires
read_alternative-read-requires t c =
    let good = good_here c.args.alternatives.now c.args.index c.index-alternatives-index.result c.if-index-alternatives.false c.index-alternatives-index.is c.requires.of_profile in
    (search (rules, the_lemmas), rw (← c.index-alternatives-index.is) good)

pub read_alternative-returns-clause-shown : goal.read_alternative-returns-clause-shown
read_alternative-returns-clause-shown t c =
    let alts = c.args.alternatives.now in
    let i = c.args.index in
    let j = view c.args.json.now in
    let x = c.index-alternatives-index.result in
    let none = errors_here j alts i x c.if-index-alternatives.false c.index-alternatives-index.is in
    let same = value_here j alts i x c.if-index-alternatives.false c.index-alternatives-index.is in
    IfOk-weaker c.read.result (λ v. Shows (shape_of x.ty) j (datum_of v)) (λ v. ShowsAt (alternatives_of (map branch_of alts)) i j (datum_of v))
    (λ v s. record { no_errors = none ∙ s.no_errors; is = s.is ∙ sym same }) (rw (← c.index-alternatives-index.is) at c.read.ensures.shown)

pub read_alternative-returns-clause-refused : goal.read_alternative-returns-clause-refused
read_alternative-returns-clause-refused t c =
    rw (errors_here (view c.args.json.now) c.args.alternatives.now c.args.index c.index-alternatives-index.result c.if-index-alternatives.false c.index-alternatives-index.is)
    (rw (← c.index-alternatives-index.is) at c.read.ensures.refused)

pub read-read_entries-requires : goal.read-read_entries-requires
read-read_entries-requires t c =
    let fs = fields_of (map part_of_field c.deref-in-Seq.result.now) in
    let type : shape_of c.args.ty.now ≡ sequence fs (more_fields_of c.in-Seq.ext) = sequence_of_fields c.args.ty.now c.in-Seq.root c.in-Seq.ext c.deref-in-Seq.result.now c.in-Seq.is c.deref-in-Seq.ensures.value in
    (search (rules, the_lemmas), components_of_profile fs (more_fields_of c.in-Seq.ext) (rw type at c.requires.of_profile))

pub read-read_entries-requires-in-Some-ext : goal.read-read_entries-requires-in-Some-ext
read-read_entries-requires-in-Some-ext t c =
    let fs = fields_of (map part_of_field c.deref-in-Seq.result.now) in
    let type : shape_of c.args.ty.now ≡ sequence fs (more_fields_of c.in-Seq.ext) = sequence_of_fields c.args.ty.now c.in-Seq.root c.in-Seq.ext c.deref-in-Seq.result.now c.in-Seq.is c.deref-in-Seq.ensures.value in
    let added = added_components fs (more_fields_of c.in-Seq.ext) (rw type at c.requires.of_profile) in
    (search (rules, the_lemmas), rw (c.in-Some-ext.is, ← c.deref-in-Some-ext.ensures.value) at added)

pub read-returns-in_err-root_entries-in-Seq-clause-refused : goal.read-returns-in_err-root_entries-in-Seq-clause-refused
read-returns-in_err-root_entries-in-Seq-clause-refused t c =
    let object : as_object (view c.args.json.now) ≡ Some (members_view c.in-Some.object.now.entries) = sym c.in-Some.ensures in
    let p = err_from_is_err_and c.from_residual-in_err-root_entries-in-Seq.result c.from_residual-in_err-root_entries-in-Seq.ensures.1 in
    rw (p.1, p.2) (root_refused c.args.ty.now c.in-Seq.root c.in-Seq.ext c.deref-in-Seq.result.now (view c.args.json.now) (members_view c.in-Some.object.now.entries) c.in-Seq.is c.deref-in-Seq.ensures.value object _ c.in_err-root_entries-in-Seq.ensures.refused)

pub read-returns-in_err-entries-in-Some-ext-clause-refused : goal.read-returns-in_err-entries-in-Some-ext-clause-refused
read-returns-in_err-entries-in-Some-ext-clause-refused t c =
    let ms = members_view c.in-Some.object.now.entries in
    let object : as_object (view c.args.json.now) ≡ Some ms = sym c.in-Some.ensures in
    let first : ShowsAfter (fields_of (map part_of_field c.deref-in-Seq.result.now)) ms [] (map (option_map datum_of) c.in_ok-root_entries-in-Seq.root_entries.items) = rw c.new.ensures.items at c.in_ok-root_entries-in-Seq.ensures.shown in
    let p = err_from_is_err_and c.from_residual-in_err-entries-in-Some-ext.result c.from_residual-in_err-entries-in-Some-ext.ensures.1 in
    rw (p.1, p.2)
    (added_refused c.args.ty.now c.in-Seq.root c.in-Seq.ext c.deref-in-Seq.result.now (view c.args.json.now) ms c.in-Seq.is c.deref-in-Seq.ensures.value object _ (map (option_map datum_of) c.in_ok-root_entries-in-Seq.root_entries.items) first
    (rw (c.in-Some-ext.is, ← c.deref-in-Some-ext.ensures.value) c.in_err-entries-in-Some-ext.ensures.refused))

pub read-returns-in_ok-check_keys-in-Seq-clause-shown : goal.read-returns-in_ok-check_keys-in-Seq-clause-shown
read-returns-in_ok-check_keys-in-Seq-clause-shown t c =
    let fs = c.deref-in-Seq.result.now in
    let ms = members_view c.in-Some.object.now.entries in
    let object : as_object (view c.args.json.now) ≡ Some ms = sym c.in-Some.ensures in
    let root_entries = map (option_map datum_of) c.in_ok-root_entries-in-Seq.root_entries.items in
    let first : ShowsAfter (fields_of (map part_of_field fs)) ms [] root_entries = rw c.new.ensures.items at c.in_ok-root_entries-in-Seq.ensures.shown in
    let added : ShowsAdded (more_fields_of c.in-Seq.ext) ms root_entries (map (option_map datum_of) c.match-ext.entries.items) =
    elim c.match-ext.branch [
      | read-in-Some-ext+in_ok-entries-in-Some-ext w ↦
          let shown = w.in_ok-entries-in-Some-ext.ensures.shown in
          rw (w.in-Some-ext.is, ← w.deref-in-Some-ext.ensures.value, w.entries-is) (record { no_errors = shown.no_errors; is = shown.is })
      | read-in-None w ↦ rw (w.in-None.is, w.entries-is) (record { no_errors = refl; is = sym (append-nil root_entries) })
    ] in
    let same : c.deref-in-Seq-2.result.now ≡ fs = c.deref-in-Seq-2.ensures.value ∙ sym c.deref-in-Seq.ensures.value in
    sequence_shown c.args.ty.now c.in-Seq.root c.in-Seq.ext fs (view c.args.json.now) ms c.in-Seq.is c.deref-in-Seq.ensures.value object c.match-ext.entries root_entries (map (option_map datum_of) c.match-ext.entries.items) first added
    (rw same at c.in_ok-check_keys-in-Seq.ensures.known) refl

pub read-alternative_index-requires : goal.read-alternative_index-requires
read-alternative_index-requires t c =
    let alts = c.deref-in-Choice.result.now in
    let root = alternatives_of (map branch_of alts) in
    let more = more_alternatives_of c.in-Choice.ext in
    let type : shape_of c.args.ty.now ≡ choice root more = choice_of_alternatives c.args.ty.now c.in-Choice.root c.in-Choice.ext alts c.in-Choice.is c.deref-in-Choice.ensures.value in
    let few = few_alternatives root more (rw type at c.requires.of_profile) in
    record { few = rw (count-of alts) at few }

pub read-read_alternative-value-requires : goal.read-read_alternative-value-requires
read-read_alternative-value-requires t c =
    let alts = c.deref-then-index-len.result.now in
    let root = alternatives_of (map branch_of alts) in
    let more = more_alternatives_of c.in-Choice.ext in
    let type : shape_of c.args.ty.now ≡ choice root more = choice_of_alternatives c.args.ty.now c.in-Choice.root c.in-Choice.ext alts c.in-Choice.is c.deref-then-index-len.ensures.value in
    (search (rules, the_lemmas), root_alternatives_of_profile root more (rw type at c.requires.of_profile))

pub read-read_alternative-value-requires-in-Some-ext-2 : goal.read-read_alternative-value-requires-in-Some-ext-2
read-read_alternative-value-requires-in-Some-ext-2 t c =
    let alts = c.deref-in-Choice.result.now in
    let root = alternatives_of (map branch_of alts) in
    let more = more_alternatives_of c.in-Choice.ext in
    let type : shape_of c.args.ty.now ≡ choice root more = choice_of_alternatives c.args.ty.now c.in-Choice.root c.in-Choice.ext alts c.in-Choice.is c.deref-in-Choice.ensures.value in
    let added = added_alternatives root more (rw type at c.requires.of_profile) in
    (search (rules, the_lemmas), rw (c.in-Some-ext-2.is, ← c.deref-in-Some-ext-2.ensures.value) at added)

pub read-returns-then-index-len-clause-shown : goal.read-returns-then-index-len-clause-shown
read-returns-then-index-len-clause-shown t c =
    let ty = c.args.ty.now in
    let alts = c.deref-in-Choice.result.now in
    let root = alternatives_of (map branch_of alts) in
    let more = more_alternatives_of c.in-Choice.ext in
    let j = view c.args.json.now in
    let e = view c.in-Some-only_member.chosen.now in
    let name = c.in-Some-only_member.name.now in
    let index = c.in-Some-alternative_index.index in
    let member : option_and_then single (as_object j) ≡ Some (name, e) = sym c.in-Some-only_member.ensures in
    let found : index_of name (choice_names root more) ≡ Some index = sym c.in-Some-alternative_index.ensures.index in
    let inside : index < length alts = omega (arith, c.if-index-len.true, c.len.ensures, c.deref-in-Choice.ensures.len) in
    let same : c.deref-then-index-len.result.now ≡ alts = c.deref-then-index-len.ensures.value ∙ sym c.deref-in-Choice.ensures.value in
    let r = c.read_alternative-value.result in
    let shown : IfOk r (λ w. ShowsAt root index e (datum_of w)) = rw same at c.read_alternative-value.ensures.shown in
    IfOk-weaker c.choice_read.result (λ v. IsOkAnd r (λ w. datum_of v ≡ alternative index (datum_of w))) (λ v. Shows (shape_of ty) j (datum_of v))
    (λ v h. alternative_read r (λ w. ShowsAt root index e (datum_of w)) (λ w. datum_of v ≡ alternative index (datum_of w)) (Shows (shape_of ty) j (datum_of v))
    (λ w s is. root_shown ty c.in-Choice.root c.in-Choice.ext alts j e name index c.in-Choice.is c.deref-in-Choice.ensures.value member found (datum_of v) (datum_of w) inside s is) shown h)
    c.choice_read.ensures.shown

pub read-returns-then-index-len-clause-refused : goal.read-returns-then-index-len-clause-refused
read-returns-then-index-len-clause-refused t c =
    let ty = c.args.ty.now in
    let alts = c.deref-in-Choice.result.now in
    let root = alternatives_of (map branch_of alts) in
    let more = more_alternatives_of c.in-Choice.ext in
    let j = view c.args.json.now in
    let e = view c.in-Some-only_member.chosen.now in
    let name = c.in-Some-only_member.name.now in
    let index = c.in-Some-alternative_index.index in
    let member : option_and_then single (as_object j) ≡ Some (name, e) = sym c.in-Some-only_member.ensures in
    let found : index_of name (choice_names root more) ≡ Some index = sym c.in-Some-alternative_index.ensures.index in
    let inside : index < length alts = omega (arith, c.if-index-len.true, c.len.ensures, c.deref-in-Choice.ensures.len) in
    let same : c.deref-then-index-len.result.now ≡ alts = c.deref-then-index-len.ensures.value ∙ sym c.deref-in-Choice.ensures.value in
    let r = c.read_alternative-value.result in
    let refused : IfErr r (λ f. TellsFirst (errors_at root index e) f) = rw same at c.read_alternative-value.ensures.refused in
    IfErr-weaker c.choice_read.result (λ f. (paths : List (List ℕ)) → IfErr r (λ g. TellsFirst paths g) → TellsFirst (below (to_member name) paths) f) (λ f. TellsFirst (errors (shape_of ty) j) f)
    (λ f h. alternative_refused ty c.in-Choice.root c.in-Choice.ext alts j e name index c.in-Choice.is c.deref-in-Choice.ensures.value member found f inside (h (errors_at root index e) refused))
    c.choice_read.ensures.refused

pub read-returns-in-Some-ext-2-clause-shown : goal.read-returns-in-Some-ext-2-clause-shown
read-returns-in-Some-ext-2-clause-shown t c =
    let ty = c.args.ty.now in
    let alts = c.deref-in-Choice.result.now in
    let root = alternatives_of (map branch_of alts) in
    let more = more_alternatives_of c.in-Choice.ext in
    let j = view c.args.json.now in
    let e = view c.in-Some-only_member.chosen.now in
    let name = c.in-Some-only_member.name.now in
    let index = c.in-Some-alternative_index.index in
    let member : option_and_then single (as_object j) ≡ Some (name, e) = sym c.in-Some-only_member.ensures in
    let found : index_of name (choice_names root more) ≡ Some index = sym c.in-Some-alternative_index.ensures.index in
    let outside : length alts ≤ index = omega (arith, c.if-index-len.false, c.len.ensures, c.deref-in-Choice.ensures.len) in
    let count : c.len-in-Some-ext-2.result ≡ length alts = omega (arith, c.len-in-Some-ext-2.ensures, c.deref-in-Choice.ensures.len) in
    let added_index = index - length alts in
    let added = alternatives_of (map branch_of c.deref-in-Some-ext-2.result.now) in
    let r = c.read_alternative-value-in-Some-ext-2.result in
    let is : more ≡ marked_choice added = rw (c.in-Some-ext-2.is, ← c.deref-in-Some-ext-2.ensures.value) refl in
    let shown : IfOk r (λ w. ShowsAt added added_index e (datum_of w)) = rw count at c.read_alternative-value-in-Some-ext-2.ensures.shown in
    IfOk-weaker c.choice_read-in-Some-ext-2.result (λ v. IsOkAnd r (λ w. datum_of v ≡ alternative index (datum_of w))) (λ v. Shows (shape_of ty) j (datum_of v))
    (λ v h. alternative_read r (λ w. ShowsAt added added_index e (datum_of w)) (λ w. datum_of v ≡ alternative index (datum_of w)) (Shows (shape_of ty) j (datum_of v))
    (λ w s said. added_shown ty c.in-Choice.root c.in-Choice.ext alts j e name index c.in-Choice.is c.deref-in-Choice.ensures.value member found (datum_of v) (datum_of w) outside (rw is s.no_errors) (rw is s.is) said) shown h)
    c.choice_read-in-Some-ext-2.ensures.shown

pub read-returns-in-Some-ext-2-clause-refused : goal.read-returns-in-Some-ext-2-clause-refused
read-returns-in-Some-ext-2-clause-refused t c =
    let ty = c.args.ty.now in
    let alts = c.deref-in-Choice.result.now in
    let root = alternatives_of (map branch_of alts) in
    let more = more_alternatives_of c.in-Choice.ext in
    let j = view c.args.json.now in
    let e = view c.in-Some-only_member.chosen.now in
    let name = c.in-Some-only_member.name.now in
    let index = c.in-Some-alternative_index.index in
    let member : option_and_then single (as_object j) ≡ Some (name, e) = sym c.in-Some-only_member.ensures in
    let found : index_of name (choice_names root more) ≡ Some index = sym c.in-Some-alternative_index.ensures.index in
    let outside : length alts ≤ index = omega (arith, c.if-index-len.false, c.len.ensures, c.deref-in-Choice.ensures.len) in
    let count : c.len-in-Some-ext-2.result ≡ length alts = omega (arith, c.len-in-Some-ext-2.ensures, c.deref-in-Choice.ensures.len) in
    let added_index = index - length alts in
    let added = alternatives_of (map branch_of c.deref-in-Some-ext-2.result.now) in
    let r = c.read_alternative-value-in-Some-ext-2.result in
    let is : more ≡ marked_choice added = rw (c.in-Some-ext-2.is, ← c.deref-in-Some-ext-2.ensures.value) refl in
    let refused : IfErr r (λ f. TellsFirst (errors_at added added_index e) f) = rw count at c.read_alternative-value-in-Some-ext-2.ensures.refused in
    IfErr-weaker c.choice_read-in-Some-ext-2.result (λ f. (paths : List (List ℕ)) → IfErr r (λ g. TellsFirst paths g) → TellsFirst (below (to_member name) paths) f) (λ f. TellsFirst (errors (shape_of ty) j) f)
    (λ f h. addition_refused ty c.in-Choice.root c.in-Choice.ext alts j e name index c.in-Choice.is c.deref-in-Choice.ensures.value member found f outside (rw is (h (errors_at added added_index e) refused)))
    c.choice_read-in-Some-ext-2.ensures.refused

pub read-returns-in-None-ext-clause-refused : goal.read-returns-in-None-ext-clause-refused
read-returns-in-None-ext-clause-refused t c =
    let ty = c.args.ty.now in
    let alts = c.deref-in-Choice.result.now in
    let root = alternatives_of (map branch_of alts) in
    let more = more_alternatives_of c.in-Choice.ext in
    let j = view c.args.json.now in
    let e = view c.in-Some-only_member.chosen.now in
    let name = c.in-Some-only_member.name.now in
    let index = c.in-Some-alternative_index.index in
    let member : option_and_then single (as_object j) ≡ Some (name, e) = sym c.in-Some-only_member.ensures in
    let found : index_of name (choice_names root more) ≡ Some index = sym c.in-Some-alternative_index.ensures.index in
    let outside : length alts ≤ index = omega (arith, c.if-index-len.false, c.len.ensures, c.deref-in-Choice.ensures.len) in
    let is : more ≡ closed_choice = rw c.in-None-ext.is refl in
    IfErr-weaker c.choice_read-in-None-ext.result (λ f. (paths : List (List ℕ)) → TellsFirst paths c.at_node-in-None-ext.result → TellsFirst (below (to_member name) paths) f) (λ f. TellsFirst (errors (shape_of ty) j) f)
    (λ f h. addition_refused ty c.in-Choice.root c.in-Choice.ext alts j e name index c.in-Choice.is c.deref-in-Choice.ensures.value member found f outside (rw is (h here c.at_node-in-None-ext.ensures)))
    c.choice_read-in-None-ext.ensures.refused
