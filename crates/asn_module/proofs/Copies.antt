-- Loops that copy and build the components of a SEQUENCE and the alternatives of a CHOICE, one turn at a time.
use Rattle.std.proofs.Common.{◌≡◌, ◌<◌, ◌+◌, ℕ, List, [], ◌∷◌, ◌++◌, map, length, drop, get_or, Vec, Global, Bor, Option, Some, None, refl, sym, ap, ◌∙◌, rules}
use Rattle.std.proofs.lemmas.List.{map_push}
use Rattle.std.proofs.Math.Seq.{drop-cons}
use Rattle.std.proofs.Math.Numerals.{add-one}
use Rattle.std.specs.Prelude.{string_bytes}
use Rattle.asn_values.specs.declared.types.Alt.{Alt}
use Rattle.asn_values.specs.declared.types.Field.{Field}
use Rattle.asn_values.specs.declared.types.AsnType.{AsnType, Seq, Choice, the_lemmas}
use Rattle.asn_values.specs.Shape.{Fields, Alternatives}
use Rattle.asn_values.specs.View.{Part, Branch, shape_of, demand_of, fields_of, part_of_field, alternatives_of, branch_of}
use Rattle.asn_values.proofs.Components.{shape_of_part}
use Rattle.asn_values.proofs.Alternatives.{shape_of_branch}
use Rattle.asn_values.proofs.Views.{shape_of-Seq, shape_of-Choice}
use Rattle.asn_notation.specs.declared.notation.Constraint.{Constraint}
use Rattle.asn_notation.specs.declared.notation.ComponentNotation.{ComponentNotation}
use Rattle.asn_notation.specs.declared.notation.AlternativeNotation.{AlternativeNotation}
use Rattle.asn_notation.specs.declared.notation.TypeNotation.{TypeNotation}
use Rattle.asn_notation.specs.declared.notation.TypeNotation as notation
use Rattle.asn_notation.specs.Tree as tree
use Rattle.asn_notation.proofs.Views.{tree_view_sequence, tree_view_choice, tree_view_reference}
use Rattle.asn_module.specs.Plain.{plain, plain_demand, plain_fields, plain_alternatives}
use Rattle.asn_module.specs.declared.known.Built.{Built}
use Rattle.asn_module.specs.Known.{built_view}
use Rattle.asn_module.specs.Meaning.{Meant, ◌>>=◌, free, meant, fields_meant, alternatives_meant, demand_meant, constrained}
use Rattle.asn_module.proofs.Lists.{before_fields, before_one, before_alternatives, before_one_alternative}

pub name_of_part : (x : Field) → (part_of_field x).name ≡ string_bytes x.name
name_of_part x = search (rules, the_lemmas)

pub demand_of_part : (x : Field) → (part_of_field x).demand ≡ demand_of x.need
demand_of_part x = search (rules, the_lemmas)

pub name_of_branch : (x : Alt) → (branch_of x).name ≡ string_bytes x.name
name_of_branch x = search (rules, the_lemmas)

-- the next of a list, and those after it
pub next : {A : Type 0} (xs : List A) (i : ℕ) (x : A) → i < length xs → x ≡ get_or xs i x → drop i xs ≡ x ∷ drop (i + 1) xs
next xs i x h e = rw (add-one, drop-cons xs i x h, ← e) refl

-- ---- copies

part_copied : (ps : List Part) (p q : Part) (rest : List Part) (all : Fields) → p.name ≡ q.name → p.demand ≡ plain_demand q.demand → p.shape ≡ plain q.shape
    → before_fields ps (plain_fields (fields_of (q ∷ rest))) ≡ all → before_fields (ps ++ p ∷ []) (plain_fields (fields_of rest)) ≡ all
part_copied ps p q rest all n d s h = before_one ps p (plain_fields (fields_of rest)) ∙ (rw (n, d, s) h)

pub field_copied : (copies fields after : List Field) (new old : Field) (i : ℕ) (all : Fields) → i < length fields → old ≡ get_or fields i old → after ≡ copies ++ new ∷ []
    → string_bytes new.name ≡ string_bytes old.name → demand_of new.need ≡ plain_demand (demand_of old.need) → shape_of new.ty ≡ plain (shape_of old.ty)
    → before_fields (map part_of_field copies) (plain_fields (fields_of (map part_of_field (drop i fields)))) ≡ all
    → before_fields (map part_of_field after) (plain_fields (fields_of (map part_of_field (drop (i + 1) fields)))) ≡ all
field_copied copies fields after new old i all less is pushed n d s h =
    let named : (part_of_field new).name ≡ (part_of_field old).name = name_of_part new ∙ n ∙ sym (name_of_part old) in
    let needed : (part_of_field new).demand ≡ plain_demand (part_of_field old).demand = demand_of_part new ∙ d ∙ ap plain_demand (sym (demand_of_part old)) in
    let shaped : (part_of_field new).shape ≡ plain (part_of_field old).shape = shape_of_part new ∙ s ∙ ap plain (sym (shape_of_part old)) in
    let split = next fields i old less is in
    rw (pushed, map_push) (part_copied (map part_of_field copies) (part_of_field new) (part_of_field old) (map part_of_field (drop (i + 1) fields)) all named needed shaped (rw split at h))

branch_copied : (bs : List Branch) (b q : Branch) (rest : List Branch) (all : Alternatives) → b.name ≡ q.name → b.shape ≡ plain q.shape
    → before_alternatives bs (plain_alternatives (alternatives_of (q ∷ rest))) ≡ all → before_alternatives (bs ++ b ∷ []) (plain_alternatives (alternatives_of rest)) ≡ all
branch_copied bs b q rest all n s h = before_one_alternative bs b (plain_alternatives (alternatives_of rest)) ∙ (rw (n, s) h)

pub alternative_copied : (copies alts after : List Alt) (new old : Alt) (i : ℕ) (all : Alternatives) → i < length alts → old ≡ get_or alts i old → after ≡ copies ++ new ∷ []
    → string_bytes new.name ≡ string_bytes old.name → shape_of new.ty ≡ plain (shape_of old.ty)
    → before_alternatives (map branch_of copies) (plain_alternatives (alternatives_of (map branch_of (drop i alts)))) ≡ all
    → before_alternatives (map branch_of after) (plain_alternatives (alternatives_of (map branch_of (drop (i + 1) alts)))) ≡ all
alternative_copied copies alts after new old i all less is pushed n s h =
    let named : (branch_of new).name ≡ (branch_of old).name = name_of_branch new ∙ n ∙ sym (name_of_branch old) in
    let shaped : (branch_of new).shape ≡ plain (branch_of old).shape = shape_of_branch new ∙ s ∙ ap plain (sym (shape_of_branch old)) in
    let split = next alts i old less is in
    rw (pushed, map_push) (branch_copied (map branch_of copies) (branch_of new) (branch_of old) (map branch_of (drop (i + 1) alts)) all named shaped (rw split at h))

pub sequence_copied : (ty : AsnType) (root more copied also : Vec Field Global) → ty ≡ Seq root (Some more)
    → fields_of (map part_of_field copied.items) ≡ plain_fields (fields_of (map part_of_field root.items)) → fields_of (map part_of_field also.items) ≡ plain_fields (fields_of (map part_of_field more.items))
    → shape_of (Seq copied (Some also)) ≡ plain (shape_of ty)
sequence_copied ty root more copied also et er em = shape_of-Seq copied (Some also) ∙ (rw (et, shape_of-Seq root (Some more), er, em) refl)

pub choice_copied : (ty : AsnType) (root more copied also : Vec Alt Global) → ty ≡ Choice root (Some more)
    → alternatives_of (map branch_of copied.items) ≡ plain_alternatives (alternatives_of (map branch_of root.items)) → alternatives_of (map branch_of also.items) ≡ plain_alternatives (alternatives_of (map branch_of more.items))
    → shape_of (Choice copied (Some also)) ≡ plain (shape_of ty)
choice_copied ty root more copied also et er em = shape_of-Choice copied (Some also) ∙ (rw (et, shape_of-Choice root (Some more), er, em) refl)

-- ---- types that are built

pub part_of_component : (x : ComponentNotation) → tree.part_view x ≡ record { name = x.name.now; tree = tree.tree_view x.ty; need = tree.need_view x.need }
part_of_component x = search (rules, notation.the_lemmas)

pub branch_of_alternative : (x : AlternativeNotation) → tree.branch_view x ≡ record { name = x.name.now; tree = tree.tree_view x.ty }
branch_of_alternative x = search (rules, notation.the_lemmas)

part_built : (look : List ℕ → Option Meant) (ps : List Part) (p : Part) (q : tree.Part) (rest : List tree.Part) (all : Option Fields) (m : Meant)
    → p.name ≡ q.name → meant look q.tree ≡ Some m → p.shape ≡ m.shape → p.demand ≡ demand_meant m.shape q.need
    → all ≡ (fields_meant look (tree.components_of (q ∷ rest)) >>= (λ fs. Some (before_fields ps fs)))
    → all ≡ (fields_meant look (tree.components_of rest) >>= (λ fs. Some (before_fields (ps ++ p ∷ []) fs)))
unfolding meant
part_built look ps p q rest all m n e s d h = h ∙ rw e (by_rest (fields_meant look (tree.components_of rest)))
  where
    by_rest : (r : Option Fields) → ((r >>= (λ fs. Some (Rattle.asn_values.specs.Shape.field q.name (demand_meant m.shape q.need) m.shape fs))) >>= (λ fs. Some (before_fields ps fs))) ≡ (r >>= (λ fs. Some (before_fields (ps ++ p ∷ []) fs)))
    by_rest None = refl
    by_rest (Some fs) = ap Some (sym (before_one ps p fs ∙ rw (n, s, d) refl))

pub field_built : (look : List ℕ → Option Meant) (built : List Field) (components : List ComponentNotation) (after : List Field) (new : Field) (old : ComponentNotation) (i : ℕ) (all : Option Fields) (m : Meant)
    → i < length components → old ≡ get_or components i old → after ≡ built ++ new ∷ []
    → string_bytes new.name ≡ old.name.now → meant look (tree.tree_view old.ty) ≡ Some m → shape_of new.ty ≡ m.shape → demand_of new.need ≡ demand_meant m.shape (tree.need_view old.need)
    → all ≡ (fields_meant look (tree.components_of (tree.parts_view (drop i components))) >>= (λ fs. Some (before_fields (map part_of_field built) fs)))
    → all ≡ (fields_meant look (tree.components_of (tree.parts_view (drop (i + 1) components))) >>= (λ fs. Some (before_fields (map part_of_field after) fs)))
field_built look built components after new old i all m less is pushed n e s d h =
    let split = next components i old less is in
    let q : tree.Part = record { name = old.name.now; tree = tree.tree_view old.ty; need = tree.need_view old.need } in
    rw (pushed, map_push)
    (part_built look (map part_of_field built) (part_of_field new) q (tree.parts_view (drop (i + 1) components)) all m
    (name_of_part new ∙ n) e (shape_of_part new ∙ s) (demand_of_part new ∙ d) (rw (split, part_of_component old) at h))

branch_built : (look : List ℕ → Option Meant) (bs : List Branch) (b : Branch) (q : tree.Branch) (rest : List tree.Branch) (all : Option Alternatives) (m : Meant)
    → b.name ≡ q.name → meant look q.tree ≡ Some m → b.shape ≡ m.shape
    → all ≡ (alternatives_meant look (tree.alternatives_of (q ∷ rest)) >>= (λ xs. Some (before_alternatives bs xs)))
    → all ≡ (alternatives_meant look (tree.alternatives_of rest) >>= (λ xs. Some (before_alternatives (bs ++ b ∷ []) xs)))
unfolding meant
branch_built look bs b q rest all m n e s h = h ∙ rw e (by_rest (alternatives_meant look (tree.alternatives_of rest)))
  where
    by_rest : (r : Option Alternatives) → ((r >>= (λ xs. Some (Rattle.asn_values.specs.Shape.one_of q.name m.shape xs))) >>= (λ xs. Some (before_alternatives bs xs))) ≡ (r >>= (λ xs. Some (before_alternatives (bs ++ b ∷ []) xs)))
    by_rest None = refl
    by_rest (Some xs) = ap Some (sym (before_one_alternative bs b xs ∙ rw (n, s) refl))

pub alternative_built : (look : List ℕ → Option Meant) (built : List Alt) (alts : List AlternativeNotation) (after : List Alt) (new : Alt) (old : AlternativeNotation) (i : ℕ) (all : Option Alternatives) (m : Meant)
    → i < length alts → old ≡ get_or alts i old → after ≡ built ++ new ∷ []
    → string_bytes new.name ≡ old.name.now → meant look (tree.tree_view old.ty) ≡ Some m → shape_of new.ty ≡ m.shape
    → all ≡ (alternatives_meant look (tree.alternatives_of (tree.branches_view (drop i alts))) >>= (λ xs. Some (before_alternatives (map branch_of built) xs)))
    → all ≡ (alternatives_meant look (tree.alternatives_of (tree.branches_view (drop (i + 1) alts))) >>= (λ xs. Some (before_alternatives (map branch_of after) xs)))
alternative_built look built alts after new old i all m less is pushed n e s h =
    let split = next alts i old less is in
    let q : tree.Branch = record { name = old.name.now; tree = tree.tree_view old.ty } in
    rw (pushed, map_push)
    (branch_built look (map branch_of built) (branch_of new) q (tree.branches_view (drop (i + 1) alts)) all m
    (name_of_branch new ∙ n) e (shape_of_branch new ∙ s) (rw (split, branch_of_alternative old) at h))

-- ---- whole types

pub sequence_built : (look : List ℕ → Option Meant) (ty : TypeNotation) (root more : Vec ComponentNotation Global) (fs ms : Vec Field Global) (b : Built) → ty ≡ notation.Sequence root (Some more)
    → fields_meant look (tree.components_of (tree.parts_view root.items)) ≡ Some (fields_of (map part_of_field fs.items))
    → fields_meant look (tree.components_of (tree.parts_view more.items)) ≡ Some (fields_of (map part_of_field ms.items))
    → built_view b ≡ free (shape_of (Seq fs (Some ms))) → meant look (tree.tree_view ty) ≡ Some (built_view b)
unfolding meant
sequence_built look ty root more fs ms b et er em eb = rw (eb, et, tree_view_sequence, shape_of-Seq, er, em) refl

pub choice_built : (look : List ℕ → Option Meant) (ty : TypeNotation) (root more : Vec AlternativeNotation Global) (xs ms : Vec Alt Global) (b : Built) → ty ≡ notation.Choice root (Some more)
    → alternatives_meant look (tree.alternatives_of (tree.branches_view root.items)) ≡ Some (alternatives_of (map branch_of xs.items))
    → alternatives_meant look (tree.alternatives_of (tree.branches_view more.items)) ≡ Some (alternatives_of (map branch_of ms.items))
    → built_view b ≡ free (shape_of (Choice xs (Some ms))) → meant look (tree.tree_view ty) ≡ Some (built_view b)
unfolding meant
choice_built look ty root more xs ms b et er em eb = rw (eb, et, tree_view_choice, shape_of-Choice, er, em) refl

pub reference_meant : (look : List ℕ → Option Meant) (ty : TypeNotation) (name : Bor (List ℕ)) (c : Constraint) (left : ℕ) (m : Meant) → ty ≡ notation.Reference name c left
    → look name.now ≡ Some m → meant look (tree.tree_view ty) ≡ constrained m c
unfolding meant
reference_meant look ty name c left m et e = rw (et, tree_view_reference, e) refl
