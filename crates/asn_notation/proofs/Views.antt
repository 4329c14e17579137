-- What a type of the program stands for, variant by variant.
use Rattle.std.specs.Global.{Box}
use Rattle.std.proofs.Common.{◌≡◌, List, ℕ, Option, Some, None, option_map, Vec, Global, Bor, rules}
use Rattle.asn_notation.specs.declared.notation.RangeNotation.{RangeNotation}
use Rattle.asn_notation.specs.declared.notation.SizeNotation.{SizeNotation}
use Rattle.asn_notation.specs.declared.notation.ListSize.{ListSize}
use Rattle.asn_notation.specs.declared.notation.Constraint.{Constraint}
use Rattle.asn_notation.specs.declared.notation.StringKind.{StringKind}
use Rattle.asn_notation.specs.declared.notation.ItemNotation.{ItemNotation}
use Rattle.asn_notation.specs.declared.notation.ComponentNotation.{ComponentNotation}
use Rattle.asn_notation.specs.declared.notation.AlternativeNotation.{AlternativeNotation}
use Rattle.asn_notation.specs.declared.notation.TypeNotation.{TypeNotation, the_lemmas}
use Rattle.asn_notation.specs.declared.notation.TypeNotation as code
use Rattle.asn_notation.specs.Tree.{tree_view, parts_view, items_view, boolean, null, utf8, integer, enumerated, text, sequence, sequence_of, choice, reference, components_of, more_of, branches_view, alternatives_of, more_alternatives_of}

pub tree_view_boolean : tree_view code.Boolean ≡ boolean
tree_view_boolean = search (rules, the_lemmas)

pub tree_view_null : tree_view code.Null ≡ null
tree_view_null = search (rules, the_lemmas)

pub tree_view_utf8 : tree_view code.Utf8 ≡ utf8
tree_view_utf8 = search (rules, the_lemmas)

pub tree_view_integer : (r : Option RangeNotation) → tree_view (code.Integer r) ≡ integer r
tree_view_integer r = search (rules, the_lemmas)

pub tree_view_enumerated : (root : Vec ItemNotation Global) (more : Option (Vec ItemNotation Global)) → tree_view (code.Enumerated root more) ≡ enumerated (items_view root.items) (option_map (λ v. items_view v.items) more)
tree_view_enumerated root more = search (rules, the_lemmas)

pub tree_view_text : (k : StringKind) (s : Option SizeNotation) → tree_view (code.Text k s) ≡ text k s
tree_view_text k s = search (rules, the_lemmas)

pub tree_view_sequence : (root : Vec ComponentNotation Global) (more : Option (Vec ComponentNotation Global))
    → tree_view (code.Sequence root more) ≡ sequence (components_of (parts_view root.items)) (more_of (option_map (λ v. parts_view v.items) more))
tree_view_sequence root None = search (rules, the_lemmas)
tree_view_sequence root (Some more) = search (rules, the_lemmas)

pub tree_view_sequence_of : (s : ListSize) (b : Box TypeNotation) → tree_view (code.SequenceOf s b) ≡ sequence_of s (tree_view b.value)
tree_view_sequence_of s b = search (rules, the_lemmas)

pub tree_view_choice : (root : Vec AlternativeNotation Global) (more : Option (Vec AlternativeNotation Global))
    → tree_view (code.Choice root more) ≡ choice (alternatives_of (branches_view root.items)) (more_alternatives_of (option_map (λ v. branches_view v.items) more))
tree_view_choice root None = search (rules, the_lemmas)
tree_view_choice root (Some more) = search (rules, the_lemmas)

pub tree_view_reference : (n : Bor (List ℕ)) (c : Constraint) (left : ℕ) → tree_view (code.Reference n c left) ≡ reference n.now c
tree_view_reference n c left = search (rules, the_lemmas)
