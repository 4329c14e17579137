-- The names of components, alternatives and items, as the program lists them and as their type does.
use Rattle.std.proofs.Common.{◌≡◌, List, [], ◌∷◌, ◌++◌, map, string_bytes, refl, ap, rules}
use Rattle.std.proofs.lemmas.List.{map-append}
use Rattle.asn_values.specs.declared.types.Alt.{Alt}
use Rattle.asn_values.specs.declared.types.Field.{Field}
use Rattle.asn_values.specs.declared.types.AsnType.{the_lemmas}
use Rattle.asn_values.specs.declared.types.Item.{Item}
use Rattle.asn_values.specs.Shape.{Label, Fields, field_names, Alternatives, alternative_names}
use Rattle.asn_values.specs.View.{fields_of, part_of_field, alternatives_of, branch_of, label_of}

-- of components
names_of_fields : (fs : List Field) → map (λ f. string_bytes f.name) fs ≡ field_names (fields_of (map part_of_field fs))
names_of_fields [] = refl
names_of_fields (f ∷ fs) =
    let name : string_bytes f.name ≡ (part_of_field f).name = search (rules, the_lemmas) in
    let others = names_of_fields fs in
    cc

-- of the components of the root and of the additions
pub names_of_components : (root added : List Field) (more : Fields) → fields_of (map part_of_field added) ≡ more →
    map (λ f. string_bytes f.name) root ++ map (λ f. string_bytes f.name) added ≡ field_names (fields_of (map part_of_field root)) ++ field_names more
names_of_components root added more e = rw (← e, names_of_fields root, names_of_fields added) refl

-- of alternatives
names_of_branches : (alts : List Alt) → map (λ a. string_bytes a.name) alts ≡ alternative_names (alternatives_of (map branch_of alts))
names_of_branches [] = refl
names_of_branches (a ∷ alts) =
    let name : string_bytes a.name ≡ (branch_of a).name = search (rules, the_lemmas) in
    let others = names_of_branches alts in
    cc

-- of the alternatives of the root and of the additions
pub names_of_alternatives : (root added : List Alt) (more : Alternatives) → alternatives_of (map branch_of added) ≡ more →
    map (λ a. string_bytes a.name) root ++ map (λ a. string_bytes a.name) added ≡ alternative_names (alternatives_of (map branch_of root)) ++ alternative_names more
names_of_alternatives root added more e = rw (← e, names_of_branches root, names_of_branches added) refl

-- of items
names_of_labels : (is : List Item) → map (λ i. string_bytes i.name) is ≡ map (λ l. l.name) (map label_of is)
names_of_labels [] = refl
names_of_labels (i ∷ is) = ap (λ names. string_bytes i.name ∷ names) (names_of_labels is)

-- of the items of the root and of the additions
pub names_of_items : (root added : List Item) (labels : List Label) → map label_of added ≡ labels →
    map (λ i. string_bytes i.name) root ++ map (λ i. string_bytes i.name) added ≡ map (λ l. l.name) (map label_of root ++ labels)
names_of_items root added labels e =
    rw (← e, map-append (λ l. l.name) (map label_of root) (map label_of added), names_of_labels root, names_of_labels added) refl
