-- The names of components, alternatives and items, as the program has them and as their type does, and whether one of
-- them is a given one.
use Rattle.std.proofs.Common.{◌≡◌, ◌∙◌, ℕ, suc, Bool, true, false, List, [], ◌∷◌, ◌++◌, ◌||◌, map, length, string_bytes, Option, Some, None, Vec, Global, is_some, option_map, bytes_eq, slice_get, ◌+◌, ◌<◌, ◌≤◌, IfSome, refl, ap, sym, arith}
use Rattle.std.specs.Prelude.{if◌then◌else◌}
use Rattle.std.specs.List.{list_any}
use Rattle.std.proofs.lemmas.List.{map-append, length-append}
use Rattle.std.proofs.lemmas.Option.{slice_get-map}
use Rattle.std.proofs.lemmas.Slice.Eq.{bytes_eq-Decides}
use Rattle.asn_values.specs.declared.types.Alt.{Alt}
use Rattle.asn_values.specs.declared.types.Field.{Field}
use Rattle.asn_values.specs.declared.types.Item.{Item}
use Rattle.asn_values.specs.LookUp.{added}
use Rattle.asn_values.specs.Shape.{Alternatives, no_alternatives, one_of, count, more_labels, more_fields, more_alternatives}
use Rattle.asn_values.specs.Shape as shape
use Rattle.asn_values.specs.View.{label_of, part_of_field, fields_of, branch_of, alternatives_of, more_labels_of, more_fields_of, more_alternatives_of, fields_seen, alternatives_seen}
use Rattle.asn_values.proofs.Alternatives.{count-of}
use Rattle.asn_values.proofs.NameLists.{names_of_components, names_of_alternatives, names_of_items}
use Rattle.asn_view.specs.Names.{index_of, item_names, alternative_names, component_names}
use Rattle.asn_json.specs.Parts as parts
use Rattle.asn_json.specs.Shown as shown

labels_added : (ext : Option (Vec Item Global)) → map label_of (added ext) ≡ more_labels (more_labels_of ext)
labels_added None = refl
labels_added (Some more) = refl

fields_added : (ext : Option (Vec Field Global)) → fields_of (map part_of_field (added ext)) ≡ more_fields (more_fields_of ext)
fields_added None = refl
fields_added (Some more) = refl

alternatives_added : (ext : Option (Vec Alt Global)) → alternatives_of (map branch_of (added ext)) ≡ more_alternatives (more_alternatives_of ext)
alternatives_added None = refl
alternatives_added (Some more) = refl

pub items_named : (root : List Item) (ext : Option (Vec Item Global)) → item_names (root ++ added ext) ≡ parts.names_of_items root ext
items_named root ext =
    map-append (λ (i : Item). string_bytes i.name) root (added ext) ∙ names_of_items root (added ext) (more_labels (more_labels_of ext)) (labels_added ext)

pub alternatives_named : (root : List Alt) (ext : Option (Vec Alt Global)) → alternative_names (root ++ added ext) ≡ shown.choice_names (alternatives_seen root) (more_alternatives_of ext)
alternatives_named root ext =
    map-append (λ (a : Alt). string_bytes a.name) root (added ext) ∙ names_of_alternatives root (added ext) (more_alternatives (more_alternatives_of ext)) (alternatives_added ext)

pub components_named : (root : List Field) (ext : Option (Vec Field Global)) → component_names (root ++ added ext) ≡ shown.component_names (fields_seen root) (more_fields_of ext)
components_named root ext =
    map-append (λ (f : Field). string_bytes f.name) root (added ext) ∙ names_of_components root (added ext) (more_fields (more_fields_of ext)) (fields_added ext)

-- ---- whether a name is among them

turned : (xs ys : List ℕ) → bytes_eq xs ys ≡ bytes_eq ys xs
turned xs ys = either (bytes_eq xs ys) (bytes_eq ys xs) refl refl
  where
    either : (a b : Bool) → bytes_eq xs ys ≡ a → bytes_eq ys xs ≡ b → a ≡ b
    either true true h g = refl
    either false false h g = refl
    either true false h g =
        let same : xs ≡ ys = (bytes_eq-Decides xs ys).0 h in
        let there : bytes_eq ys xs ≡ true = (bytes_eq-Decides ys xs).1 (cc) in
        absurd (cc)
    either false true h g =
        let same : ys ≡ xs = (bytes_eq-Decides ys xs).0 g in
        let there : bytes_eq xs ys ≡ true = (bytes_eq-Decides xs ys).1 (cc) in
        absurd (cc)

later : (o : Option ℕ) → is_some (option_map suc o) ≡ is_some o
later None = refl
later (Some p) = refl

pub is_among : (name : List ℕ) (names : List (List ℕ)) → is_some (index_of name names) ≡ list_any (bytes_eq name) names
is_among name [] = refl
is_among name (n ∷ names) = rw (turned name n) (first (bytes_eq n name) (index_of name names) (list_any (bytes_eq name) names) (is_among name names))
  where
    first : (b : Bool) (o : Option ℕ) (rest : Bool) → is_some o ≡ rest → is_some (if b then Some 0 else option_map suc o) ≡ b || rest
    first true o rest h = refl
    first false o rest h = later o ∙ h

-- the name at an index
pub name_at : (root : List Item) (ext : Option (Vec Item Global)) (i : ℕ) →
    slice_get (parts.names_of_items root ext) i ≡ option_map (λ x. string_bytes x.name) (slice_get (root ++ added ext) i)
name_at root ext i = ap (λ names. slice_get names i) (sym (items_named root ext)) ∙ slice_get-map (λ (x : Item). string_bytes x.name) (root ++ added ext) i

-- ---- how many there are

pub all_alternatives : (root : List Alt) (ext : Option (Vec Alt Global)) → length (root ++ added ext) ≡ length root + count (more_alternatives (more_alternatives_of ext))
all_alternatives root ext =
    length-append root (added ext) ∙ ap (λ n. length root + n) (sym (count-of (added ext)) ∙ ap count (alternatives_added ext))

pub many_names : (alts : Alternatives) → length (shape.alternative_names alts) ≡ count alts
many_names no_alternatives = refl
many_names (one_of name t alts) = ap suc (many_names alts)

-- a number below a bound is below a larger one
pub below : (o : Option ℕ) (n m : ℕ) → n ≤ m → IfSome o (λ p. p < n) → IfSome o (λ p. p < m)
below None n m h g = g
below (Some p) n m h g = omega arith
