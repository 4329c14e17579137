-- Names that are added for the types of a list, one turn of the loop at a time, and for a whole type.
use Rattle.std.proofs.Common.{◌≡◌, ◌∙◌, ◌<◌, ◌+◌, ℕ, List, ◌++◌, length, drop, get_or, Vec, Global, Option, Some, None, append_assoc, append-nil, refl, sym, ap}
use Rattle.asn_notation.specs.declared.notation.ComponentNotation.{ComponentNotation}
use Rattle.asn_notation.specs.declared.notation.AlternativeNotation.{AlternativeNotation}
use Rattle.asn_notation.specs.declared.notation.TypeNotation.{TypeNotation}
use Rattle.asn_notation.specs.declared.notation.TypeNotation as notation
use Rattle.asn_notation.specs.Tree.{tree_view, components_view, alternatives_view, parts_view, branches_view, components_of, alternatives_of}
use Rattle.asn_notation.proofs.Views.{tree_view_sequence, tree_view_choice}
use Rattle.asn_module.specs.Uses.{references, component_references, alternative_references}
use Rattle.asn_module.proofs.Copies.{next, part_of_component, branch_of_alternative}

pub of_component : (xs : List ComponentNotation) (i : ℕ) (x : ComponentNotation) (before after all : List (List ℕ)) → i < length xs → x ≡ get_or xs i x
    → after ≡ before ++ references (tree_view x.ty) → before ++ component_references (components_view (drop i xs)) ≡ all
    → after ++ component_references (components_view (drop (i + 1) xs)) ≡ all
of_component xs i x before after all less is added h =
    rw (added, append_assoc) (rw (next xs i x less is, part_of_component x) at h)

pub of_alternative : (xs : List AlternativeNotation) (i : ℕ) (x : AlternativeNotation) (before after all : List (List ℕ)) → i < length xs → x ≡ get_or xs i x
    → after ≡ before ++ references (tree_view x.ty) → before ++ alternative_references (alternatives_view (drop i xs)) ≡ all
    → after ++ alternative_references (alternatives_view (drop (i + 1) xs)) ≡ all
of_alternative xs i x before after all less is added h =
    rw (added, append_assoc) (rw (next xs i x less is, branch_of_alternative x) at h)

pub of_sequence : (ty : TypeNotation) (root : Vec ComponentNotation Global) (before after : List (List ℕ)) → ty ≡ notation.Sequence root None
    → after ≡ before ++ component_references (components_view root.items) → after ≡ before ++ references (tree_view ty)
of_sequence ty root before after is added = added ∙ rw (is, tree_view_sequence, append-nil) refl

pub of_marked_sequence : (ty : TypeNotation) (root more : Vec ComponentNotation Global) (before between after : List (List ℕ)) → ty ≡ notation.Sequence root (Some more)
    → between ≡ before ++ component_references (components_view root.items) → after ≡ between ++ component_references (components_view more.items)
    → after ≡ before ++ references (tree_view ty)
of_marked_sequence ty root more before between after is added also = also ∙ rw (is, tree_view_sequence, added) (append_assoc before _ _)

pub of_choice : (ty : TypeNotation) (root : Vec AlternativeNotation Global) (before after : List (List ℕ)) → ty ≡ notation.Choice root None
    → after ≡ before ++ alternative_references (alternatives_view root.items) → after ≡ before ++ references (tree_view ty)
of_choice ty root before after is added = added ∙ rw (is, tree_view_choice, append-nil) refl

pub of_marked_choice : (ty : TypeNotation) (root more : Vec AlternativeNotation Global) (before between after : List (List ℕ)) → ty ≡ notation.Choice root (Some more)
    → between ≡ before ++ alternative_references (alternatives_view root.items) → after ≡ between ++ alternative_references (alternatives_view more.items)
    → after ≡ before ++ references (tree_view ty)
of_marked_choice ty root more before between after is added also = also ∙ rw (is, tree_view_choice, added) (append_assoc before _ _)
