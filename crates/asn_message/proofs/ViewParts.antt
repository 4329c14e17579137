-- The parts of a value in slots, as the type has them.
use Rattle.std.proofs.Common.{◌≡◌, ◌≢◌, ◌<◌, ◌∙◌, ◌+◌, ◌-◌, ℕ, zero, suc, List, [], ◌∷◌, ◌++◌, map, slice_get, length, take, Option, Some, None, Vec, Global, refl, ap, ap₂, sym, arith}
use Rattle.std.specs.Option.{option_map}
use Rattle.std.specs.Global.{Box}
use Rattle.std.proofs.lemmas.Option.{slice_get-map}
use Rattle.asn_values.specs.declared.types.Size.{Size}
use Rattle.asn_values.specs.declared.types.Item.{Item}
use Rattle.asn_values.specs.declared.types.Alt.{Alt}
use Rattle.asn_values.specs.declared.types.Field.{Field}
use Rattle.asn_values.specs.declared.types.AsnType.{AsnType, Seq, SeqOf, Choice}
use Rattle.asn_values.specs.declared.types.AsnType.TheVariants as asn_type
use Rattle.asn_values.specs.Datum.{Datum, Components, Elements, item, components, components_of, elements, elements_of, alternative}
use Rattle.asn_values.specs.Shape.{Shape, enumerated, sequence, sequence_of, choice}
use Rattle.asn_values.specs.LookUp.{added}
use Rattle.asn_values.specs.View.{Part, shape_of, label_of, branch_of}
use Rattle.asn_values.proofs.Views.{shape_of-Enum, shape_of-Seq, shape_of-SeqOf, shape_of-Choice, component_list-components_of, element_list-elements_of}
use Rattle.asn_view.specs.Seen.{parts_seen}
use Rattle.asn_view.specs.Typed.{Typed, typed, branch_value, component_value, values_of_parts, components_by, chosen_by, elements_by, item_name_by, length_of}
use Rattle.asn_view.proofs.PartLists.{all_parts, all_branches, all_labels}
use Rattle.asn_plan.specs.Plans.{absents}
use Rattle.asn_message.specs.declared.slots.Content.{Content}
use Rattle.asn_message.specs.declared.slots.Content.TheVariants as content
use Rattle.asn_message.specs.Slots.{value_at, values_of, IsCounted}

-- ---- components

-- entries that are absent after the others change no component
absents_after : (ps : List Part) (es : List (Option Datum)) (n : ℕ) → values_of_parts ps (es ++ absents n) ≡ values_of_parts ps es
absents_after [] es n = refl
absents_after (p ∷ ps) [] zero = refl
absents_after (p ∷ ps) [] (suc n) = ap (λ r. (p.name, component_value p None) ∷ r) (absents_after ps [] n)
absents_after (p ∷ ps) (e ∷ es) n = ap (λ r. (p.name, component_value p e) ∷ r) (absents_after ps es n)

pub components_of_entries : (t : AsnType) (d : Datum) (root : Vec Field Global) (ext : Option (Vec Field Global)) (es : List (Option Datum)) (n : ℕ)
    → t ≡ Seq root ext → d ≡ components (components_of (es ++ absents n))
    → components_by (shape_of t) d ≡ values_of_parts (parts_seen (root.items ++ added ext)) es
components_of_entries t d root ext es n et ed =
    rw (et, ed, shape_of-Seq root ext)
    (ap₂ values_of_parts (all_parts root ext) (component_list-components_of (es ++ absents n)) ∙ absents_after (parts_seen (root.items ++ added ext)) es n)

pub components_of_none : (t : Shape) (d : Datum) → ((es : Components) → d ≢ components es) → components_by t d ≡ []
components_of_none (sequence root more) (components es) h = absurd (h es refl)
components_of_none t d h = refl

-- ---- elements

pub elements_of_values : (t e : AsnType) (d : Datum) (b : Box AsnType) (s : Size) (ds : List Datum) → t ≡ SeqOf b s → e ≡ b.value
    → d ≡ elements (elements_of ds) → elements_by (shape_of t) d ≡ map (typed (shape_of e)) ds
elements_of_values t e d b s ds et ee ed = rw (et, ee, ed, shape_of-SeqOf b s, element_list-elements_of) refl

pub elements_of_none : (t : Shape) (d : Datum) → ((ds : Elements) → d ≢ elements ds) → elements_by t d ≡ []
elements_of_none (sequence_of t s) (elements ds) h = absurd (h ds refl)
elements_of_none t d h = refl

-- one more element is passed
pub element_passed : (xs ys : List Typed) (x : Typed) (n i : ℕ) → i < n → xs ≡ x ∷ ys
    → slice_get xs (n - i) ≡ slice_get ys (n - (i + 1))
element_passed xs ys x n i l e =
    let one : n - i ≡ suc (n - (i + 1)) = omega (arith, l) in
    rw (e, one) refl

pub no_element_there : (xs : List Typed) (n : ℕ) → xs ≡ [] → slice_get xs n ≡ None
no_element_there xs n e = rw e refl

pub element_there : (xs ys : List Typed) (x : Typed) (n : ℕ) → n ≡ 0 → xs ≡ x ∷ ys → slice_get xs n ≡ Some x
element_there xs ys x n z e = rw (z, e) refl

-- ---- the alternative

mapped : {A B C : Type 0} (f : A → B) (g : B → C) (o : Option A) → option_map g (option_map f o) ≡ option_map (λ a. g (f a)) o
mapped f g None = refl
mapped f g (Some a) = refl

pub chosen_of_tag : (t : AsnType) (d e : Datum) (root : Vec Alt Global) (ext : Option (Vec Alt Global)) (tag : ℕ) → t ≡ Choice root ext
    → d ≡ alternative tag e
    → chosen_by (shape_of t) d ≡ option_map (λ a. branch_value (branch_of a) e) (slice_get (root.items ++ added ext) tag)
chosen_of_tag t d e root ext tag et ed =
    rw (et, ed, shape_of-Choice root ext, all_branches root ext, slice_get-map)
    (mapped (λ a. branch_of a) (λ b. branch_value b e) (slice_get (root.items ++ added ext) tag))

pub chosen_of_none : (t : Shape) (d : Datum) → ((n : ℕ) (e : Datum) → d ≢ alternative n e) → chosen_by t d ≡ None
chosen_of_none (choice root more) (alternative n e) h = absurd (h n e refl)
chosen_of_none t d h = refl

-- ---- the item

pub item_of_index : (t : AsnType) (d : Datum) (root : Vec Item Global) (ext : Option (Vec Item Global)) (p : ℕ) → t ≡ asn_type.Enum root ext
    → d ≡ item p → item_name_by (shape_of t) d ≡ option_map (λ i. (label_of i).name) (slice_get (root.items ++ added ext) p)
item_of_index t d root ext p et ed =
    rw (et, ed, shape_of-Enum root ext, all_labels root ext, slice_get-map)
    (mapped (λ i. label_of i) (λ l. l.name) (slice_get (root.items ++ added ext) p))

pub item_of_none : (t : Shape) (d : Datum) → ((n : ℕ) → d ≢ item n) → item_name_by t d ≡ None
item_of_none (enumerated root more) (item n) h = absurd (h n refl)
item_of_none t d h = refl

-- ---- lengths

-- how many elements stand in slots
pub length_of_list : (d : Datum) (c : Content) (os : List ℕ) (es : List (Option Datum)) (count : ℕ) → c ≡ content.List count
    → d ≡ value_at os c es → IsCounted c es → count ≡ length_of d
length_of_list d c os es count ec ed counted =
    let is : d ≡ elements (elements_of (values_of (take count es))) = rw ec at ed in
    let all : length (values_of (take count es)) ≡ count = rw ec at counted in
    sym (ap length_of is ∙ ap (λ (ds : List Datum). length ds) (element_list-elements_of (values_of (take count es))) ∙ all)
