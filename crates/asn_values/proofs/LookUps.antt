-- The first part of a name, as the program finds it and as the type has it.
use Rattle.std.proofs.Common.{◌≡◌, ℕ, Bool, true, false, List, [], ◌∷◌, map, string_bytes, bytes_eq, cond, option_map, Option, Some, None, Vec, Global, refl, ap, ap₂, sym, ◌∙◌, rules}
use Rattle.std.specs.Option.{option_or}
use Rattle.asn_values.specs.declared.types.Alt.{Alt}
use Rattle.asn_values.specs.declared.types.Field.{Field}
use Rattle.asn_values.specs.declared.types.Item.{Item}
use Rattle.asn_values.specs.declared.types.AsnType.{AsnType, Seq, Enum, Choice, the_lemmas}
use Rattle.asn_values.specs.LookUp.{first_where, added, first_label, first_field, first_branch, item_named, component_named, alternative_named}
use Rattle.asn_values.specs.View.{shape_of, fields_of, part_of_field, alternatives_of, branch_of, label_of}
use Rattle.asn_values.proofs.Views.{shape_of-Seq, shape_of-Choice, shape_of-Enum}

picks : {A B : Type 0} (g : A → B) (b : Bool) (x : A) (rest : Option A) → option_map g (cond b (Some x) rest) ≡ cond b (Some (g x)) (option_map g rest)
picks g true x rest = refl
picks g false x rest = refl

either : {A B : Type 0} (g : A → B) (x y : Option A) → option_map g (option_or x y) ≡ option_or (option_map g x) (option_map g y)
either g None y = refl
either g (Some x) y = refl

through : {R A B : Type 0} (now : R → A) (g : A → B) (r : Option R) → option_map (λ x. g (now x)) r ≡ option_map g (option_map now r)
through now g None = refl
through now g (Some x) = refl

fields_first : (name : List ℕ) (fs : List Field) → option_map part_of_field (first_where (λ f. bytes_eq name (string_bytes f.name)) fs) ≡ first_field name (fields_of (map part_of_field fs))
fields_first name [] = refl
fields_first name (f ∷ fs) =
    let same : string_bytes f.name ≡ (part_of_field f).name = search (rules, the_lemmas) in
    picks part_of_field (bytes_eq name (string_bytes f.name)) f (first_where (λ f. bytes_eq name (string_bytes f.name)) fs)
    ∙ ap₂ (λ n r. cond (bytes_eq name n) (Some (part_of_field f)) r) same (fields_first name fs)

branches_first : (name : List ℕ) (alts : List Alt) → option_map branch_of (first_where (λ a. bytes_eq name (string_bytes a.name)) alts) ≡ first_branch name (alternatives_of (map branch_of alts))
branches_first name [] = refl
branches_first name (a ∷ alts) =
    let same : string_bytes a.name ≡ (branch_of a).name = search (rules, the_lemmas) in
    picks branch_of (bytes_eq name (string_bytes a.name)) a (first_where (λ a. bytes_eq name (string_bytes a.name)) alts)
    ∙ ap₂ (λ n r. cond (bytes_eq name n) (Some (branch_of a)) r) same (branches_first name alts)

labels_first : (name : List ℕ) (is : List Item) → option_map label_of (first_where (λ i. bytes_eq name (string_bytes i.name)) is) ≡ first_label name (map label_of is)
labels_first name [] = refl
labels_first name (i ∷ is) =
    picks label_of (bytes_eq name (string_bytes i.name)) i (first_where (λ i. bytes_eq name (string_bytes i.name)) is)
    ∙ ap (λ r. cond (bytes_eq name (string_bytes i.name)) (Some (label_of i)) r) (labels_first name is)

-- in the root, or else among the additions
component_of : (name : List ℕ) (root : Vec Field Global) (ext : Option (Vec Field Global)) →
    option_map part_of_field (option_or (first_where (λ f. bytes_eq name (string_bytes f.name)) root.items) (first_where (λ f. bytes_eq name (string_bytes f.name)) (added ext)))
    ≡ component_named name (shape_of (Seq root ext))
component_of name root None = either part_of_field _ _ ∙ ap₂ option_or (fields_first name root.items) refl ∙ ap (component_named name) (sym (shape_of-Seq root None))
component_of name root (Some more) = either part_of_field _ _ ∙ ap₂ option_or (fields_first name root.items) (fields_first name more.items) ∙ ap (component_named name) (sym (shape_of-Seq root (Some more)))

alternative_of : (name : List ℕ) (root : Vec Alt Global) (ext : Option (Vec Alt Global)) →
    option_map branch_of (option_or (first_where (λ f. bytes_eq name (string_bytes f.name)) root.items) (first_where (λ f. bytes_eq name (string_bytes f.name)) (added ext)))
    ≡ alternative_named name (shape_of (Choice root ext))
alternative_of name root None = either branch_of _ _ ∙ ap₂ option_or (branches_first name root.items) refl ∙ ap (alternative_named name) (sym (shape_of-Choice root None))
alternative_of name root (Some more) = either branch_of _ _ ∙ ap₂ option_or (branches_first name root.items) (branches_first name more.items) ∙ ap (alternative_named name) (sym (shape_of-Choice root (Some more)))

item_of : (name : List ℕ) (root : Vec Item Global) (ext : Option (Vec Item Global)) →
    option_map label_of (option_or (first_where (λ f. bytes_eq name (string_bytes f.name)) root.items) (first_where (λ f. bytes_eq name (string_bytes f.name)) (added ext)))
    ≡ item_named name (shape_of (Enum root ext))
item_of name root None = either label_of _ _ ∙ ap₂ option_or (labels_first name root.items) refl ∙ ap (item_named name) (sym (shape_of-Enum root None))
item_of name root (Some more) = either label_of _ _ ∙ ap₂ option_or (labels_first name root.items) (labels_first name more.items) ∙ ap (item_named name) (sym (shape_of-Enum root (Some more)))

-- the part that a look-up gives
pub component_found : {R : Type 0} (now : R → Field) (r : Option R) (name : List ℕ) (t : AsnType) (root : Vec Field Global) (ext : Option (Vec Field Global)) (fs : List Field) → t ≡ Seq root ext → fs ≡ root.items →
    option_map now r ≡ option_or (first_where (λ f. bytes_eq name (string_bytes f.name)) fs) (first_where (λ f. bytes_eq name (string_bytes f.name)) (added ext)) →
    option_map (λ x. part_of_field (now x)) r ≡ component_named name (shape_of t)
component_found now r name t root ext fs et ef h =
    rw et (through now part_of_field r ∙ ap (option_map part_of_field) (rw ef at h) ∙ component_of name root ext)

pub alternative_found : {R : Type 0} (now : R → Alt) (r : Option R) (name : List ℕ) (t : AsnType) (root : Vec Alt Global) (ext : Option (Vec Alt Global)) (alts : List Alt) → t ≡ Choice root ext → alts ≡ root.items →
    option_map now r ≡ option_or (first_where (λ f. bytes_eq name (string_bytes f.name)) alts) (first_where (λ f. bytes_eq name (string_bytes f.name)) (added ext)) →
    option_map (λ x. branch_of (now x)) r ≡ alternative_named name (shape_of t)
alternative_found now r name t root ext alts et ea h =
    rw et (through now branch_of r ∙ ap (option_map branch_of) (rw ea at h) ∙ alternative_of name root ext)

pub item_found : {R : Type 0} (now : R → Item) (r : Option R) (name : List ℕ) (t : AsnType) (root : Vec Item Global) (ext : Option (Vec Item Global)) (is : List Item) → t ≡ Enum root ext → is ≡ root.items →
    option_map now r ≡ option_or (first_where (λ f. bytes_eq name (string_bytes f.name)) is) (first_where (λ f. bytes_eq name (string_bytes f.name)) (added ext)) →
    option_map (λ x. label_of (now x)) r ≡ item_named name (shape_of t)
item_found now r name t root ext is et ei h =
    rw et (through now label_of r ∙ ap (option_map label_of) (rw ei at h) ∙ item_of name root ext)
