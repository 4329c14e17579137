-- The parts of a value, as the program holds them and as the type has them.
use Rattle.std.proofs.Common.{◌≡◌, ℕ, List, [], ◌∷◌, ◌++◌, map, slice_get, length, Option, Some, None, Vec, Global, refl, ap, ap₂, sym, ◌∙◌, rules}
use Rattle.std.specs.Option.{option_map}
use Rattle.std.proofs.lemmas.List.{map-append, length-map}
use Rattle.std.proofs.lemmas.Option.{slice_get-map}
use Rattle.std.specs.Global.{Box}
use Rattle.asn_values.specs.declared.types.Size.{Size}
use Rattle.asn_values.specs.declared.types.Item.{Item}
use Rattle.asn_values.specs.declared.types.Alt.{Alt}
use Rattle.asn_values.specs.declared.types.Field.{Field}
use Rattle.asn_values.specs.declared.types.AsnType.{AsnType, Seq, SeqOf, Choice}
use Rattle.asn_values.specs.declared.types.AsnType.TheVariants as asn_type
use Rattle.asn_values.specs.declared.value.Value.{Value}
use Rattle.asn_values.specs.declared.value.Value as values
use Rattle.asn_values.specs.declared.value.Value.TheVariants as value
use Rattle.asn_values.specs.Datum.{Datum, item}
use Rattle.asn_values.specs.Shape.{Shape, boolean, null, integer, enumerated, bit_string, octet_string, restricted, utf8_string, sequence, sequence_of, choice, more_labels, more_fields, more_alternatives}
use Rattle.asn_values.specs.LookUp.{added}
use Rattle.asn_values.specs.View.{Part, Branch, fields_of, alternatives_of, shape_of, datum_of, label_of, part_of_field, branch_of, entries_seen, more_labels_of, more_fields_of, more_alternatives_of}
use Rattle.asn_values.proofs.Views.{shape_of-Enum, shape_of-Seq, shape_of-SeqOf, shape_of-Choice, datum_of-Seq, datum_of-List, datum_of-Choice, component_list-components_of, element_list-elements_of}
use Rattle.asn_view.specs.Typed.{Typed, typed, parts, branches, branch_value, values_of_parts, components_by, chosen_by, chosen_in, components_in, elements_by, item_name_by, length_of}

parts-fields_of : (ps : List Part) → parts (fields_of ps) ≡ ps
parts-fields_of [] = refl
parts-fields_of (p ∷ ps) = ap (λ qs. p ∷ qs) (parts-fields_of ps)

parts-more : (ext : Option (Vec Field Global)) → parts (more_fields (more_fields_of ext)) ≡ map part_of_field (added ext)
parts-more None = refl
parts-more (Some more) = parts-fields_of (map part_of_field more.items)

branches-alternatives_of : (bs : List Branch) → branches (alternatives_of bs) ≡ bs
branches-alternatives_of [] = refl
branches-alternatives_of (b ∷ bs) = ap (λ cs. b ∷ cs) (branches-alternatives_of bs)

branches-more : (ext : Option (Vec Alt Global)) → branches (more_alternatives (more_alternatives_of ext)) ≡ map branch_of (added ext)
branches-more None = refl
branches-more (Some more) = branches-alternatives_of (map branch_of more.items)

labels-more : (ext : Option (Vec Item Global)) → more_labels (more_labels_of ext) ≡ map label_of (added ext)
labels-more None = refl
labels-more (Some more) = refl

-- all components of a SEQUENCE
pub all_parts : (root : Vec Field Global) (ext : Option (Vec Field Global)) →
    parts (fields_of (map part_of_field root.items)) ++ parts (more_fields (more_fields_of ext)) ≡ map part_of_field (root.items ++ added ext)
all_parts root ext =
    ap₂ (λ a b. a ++ b) (parts-fields_of (map part_of_field root.items)) (parts-more ext) ∙ sym (map-append part_of_field root.items (added ext))

-- all alternatives of a CHOICE
pub all_branches : (root : Vec Alt Global) (ext : Option (Vec Alt Global)) →
    branches (alternatives_of (map branch_of root.items)) ++ branches (more_alternatives (more_alternatives_of ext)) ≡ map branch_of (root.items ++ added ext)
all_branches root ext =
    ap₂ (λ x y. x ++ y) (branches-alternatives_of (map branch_of root.items)) (branches-more ext) ∙ sym (map-append branch_of root.items (added ext))

-- all items of an ENUMERATED
pub all_labels : (root : Vec Item Global) (ext : Option (Vec Item Global)) →
    map label_of root.items ++ more_labels (more_labels_of ext) ≡ map label_of (root.items ++ added ext)
all_labels root ext = ap (λ y. map label_of root.items ++ y) (labels-more ext) ∙ sym (map-append label_of root.items (added ext))

-- the components of a SEQUENCE
pub components_of_sequence : (t : AsnType) (v : Value) (root : Vec Field Global) (ext : Option (Vec Field Global)) (es : Vec (Option Value) Global) →
    t ≡ Seq root ext → v ≡ value.Seq es →
    components_by (shape_of t) (datum_of v) ≡ values_of_parts (map part_of_field (root.items ++ added ext)) (entries_seen es.items)
components_of_sequence t v root ext es et ev =
    rw (et, ev, shape_of-Seq root ext, datum_of-Seq es)
    (ap₂ values_of_parts
    (ap₂ (λ a b. a ++ b) (parts-fields_of (map part_of_field root.items)) (parts-more ext) ∙ sym (map-append part_of_field root.items (added ext)))
    (component_list-components_of (entries_seen es.items)))

-- the chosen alternative of a CHOICE
pub chosen_of_choice : (t : AsnType) (v : Value) (root : Vec Alt Global) (ext : Option (Vec Alt Global)) (tag : ℕ) (b : Box Value) →
    t ≡ Choice root ext → v ≡ value.Choice tag b →
    chosen_by (shape_of t) (datum_of v) ≡ option_map (λ a. branch_value (branch_of a) (datum_of b.value)) (slice_get (root.items ++ added ext) tag)
chosen_of_choice t v root ext tag b et ev =
    let all : branches (alternatives_of (map branch_of root.items)) ++ branches (more_alternatives (more_alternatives_of ext)) ≡ map branch_of (root.items ++ added ext) =
    ap₂ (λ x y. x ++ y) (branches-alternatives_of (map branch_of root.items)) (branches-more ext) ∙ sym (map-append branch_of root.items (added ext)) in
    rw (et, ev, shape_of-Choice root ext, datum_of-Choice tag b, all, slice_get-map)
    (mapped (λ a. branch_of a) (λ a. branch_value a (datum_of b.value)) (slice_get (root.items ++ added ext) tag))
  where
    mapped : {A B C : Type 0} (f : A → B) (g : B → C) (o : Option A) → option_map g (option_map f o) ≡ option_map (λ a. g (f a)) o
    mapped f g None = refl
    mapped f g (Some a) = refl

pub maps : {A B C : Type 0} (f : A → B) (g : B → C) (xs : List A) → map g (map f xs) ≡ map (λ x. g (f x)) xs
maps f g [] = refl
maps f g (x ∷ xs) = ap (λ ys. g (f x) ∷ ys) (maps f g xs)

-- the elements of a SEQUENCE OF
pub elements_of_list : (t e : AsnType) (v : Value) (b : Box AsnType) (s : Size) (es : Vec Value Global) → t ≡ SeqOf b s → e ≡ b.value → v ≡ value.List es →
    elements_by (shape_of t) (datum_of v) ≡ map (λ x. typed (shape_of e) (datum_of x)) es.items
elements_of_list t e v b s es et ee ev =
    rw (et, ee, ev, shape_of-SeqOf b s, datum_of-List es, element_list-elements_of) (maps datum_of (typed (shape_of b.value)) es.items)

pub datum_of-Enum : (p : ℕ) → datum_of (value.Enum p) ≡ item p
datum_of-Enum p = search (rules, values.the_lemmas)

-- the name of an item
pub item_name_of_items : (t : AsnType) (v : Value) (root : Vec Item Global) (ext : Option (Vec Item Global)) (p : ℕ) → t ≡ asn_type.Enum root ext → v ≡ value.Enum p →
    item_name_by (shape_of t) (datum_of v) ≡ option_map (λ i. (label_of i).name) (slice_get (root.items ++ added ext) p)
item_name_of_items t v root ext p et ev =
    let all : map label_of root.items ++ more_labels (more_labels_of ext) ≡ map label_of (root.items ++ added ext) =
    ap (λ y. map label_of root.items ++ y) (labels-more ext) ∙ sym (map-append label_of root.items (added ext)) in
    ap (λ t. item_name_by t (datum_of v)) (ap shape_of et ∙ shape_of-Enum root ext) ∙ ap (λ w. item_name_by (enumerated (map label_of root.items) (more_labels_of ext)) (datum_of w)) ev ∙ ap (item_name_by (enumerated (map label_of root.items) (more_labels_of ext))) (datum_of-Enum p)
    ∙ ap (λ ls. option_map (λ l. l.name) (slice_get ls p)) all ∙ ap (option_map (λ l. l.name)) (slice_get-map label_of (root.items ++ added ext) p)
    ∙ (names (slice_get (root.items ++ added ext) p))
  where
    names : (o : Option Item) → option_map (λ l. l.name) (option_map label_of o) ≡ option_map (λ i. (label_of i).name) o
    names None = refl
    names (Some i) = refl

-- how many elements
pub length_of-List : (v : Value) (es : Vec Value Global) → v ≡ value.List es → length_of (datum_of v) ≡ length es.items
length_of-List v es ev = rw (ev, datum_of-List es, element_list-elements_of) (length-map es.items datum_of)

-- what is read of the part at an index
pub through : {R A B : Type 0} (now : R → A) (f : A → B) (r : Option R) (x : Option A) → option_map now r ≡ x → option_map (λ p. f (now p)) r ≡ option_map f x
through now f None x e = rw (← e) refl
through now f (Some p) x e = rw (← e) refl

-- a CHOICE has no components
pub no_components : (v : Typed) (x : List ℕ × Typed) → chosen_in v ≡ Some x → components_in v ≡ []
no_components v x h = at_shape v.shape v.datum h
  where
    at_shape : (t : Shape) (d : Datum) → chosen_by t d ≡ Some x → components_by t d ≡ []
    at_shape boolean d h = refl
    at_shape null d h = refl
    at_shape (integer b) d h = refl
    at_shape (enumerated root more) d h = refl
    at_shape (bit_string s) d h = refl
    at_shape (octet_string s) d h = refl
    at_shape (restricted k s) d h = refl
    at_shape utf8_string d h = refl
    at_shape (sequence root more) d h = cc
    at_shape (sequence_of t s) d h = refl
    at_shape (choice root more) d h = refl
