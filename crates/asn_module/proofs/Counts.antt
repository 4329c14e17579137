-- What is counted of a notation is how many types it stands for.
use Rattle.std.proofs.Common.{◌≡◌, ◌<◌, ℕ, suc, Bool, true, false, cond, List, Option, Some, None, refl, sym, ap, ◌∙◌, arith}
use Rattle.std.proofs.lemmas.Bool.{ltb-false}
use Rattle.asn_values.specs.Shape as s
use Rattle.asn_values.specs.Shape.{Shape, SizeRange, Fields, MoreFields, Alternatives, MoreAlternatives}
use Rattle.asn_values.specs.Measures.{nodes, fields_nodes, more_nodes, choice_nodes, more_choice_nodes}
use Rattle.asn_values.specs.Profile.{TooMany, somewhere, too_many_here, most_nodes}
use Rattle.asn_values.proofs.Parts.{right_false}
use Rattle.asn_notation.specs.declared.notation.Constraint.{Constraint}
use Rattle.asn_notation.specs.declared.notation.Constraint.TheVariants as constraint
use Rattle.asn_notation.specs.declared.notation.ListSize.{ListSize}
use Rattle.asn_notation.specs.declared.notation.ListSize.TheVariants as list_size
use Rattle.asn_notation.specs.declared.notation.RangeNotation.{RangeNotation}
use Rattle.asn_notation.specs.declared.notation.SizeNotation.{SizeNotation}
use Rattle.asn_notation.specs.declared.notation.StringKind.{StringKind}
use Rattle.asn_notation.specs.declared.notation.StringKind.TheVariants as string_kind
use Rattle.asn_notation.specs.Tree as t
use Rattle.asn_notation.specs.Tree.{Tree, Components, More}
use Rattle.asn_module.specs.Counting.{capped, weight, components_weight, more_weight, alternatives_weight, more_alternatives_weight}
use Rattle.asn_module.specs.Known.{IsStuck}
use Rattle.asn_module.specs.Meaning.{Meant, ◌>>=◌, free, meant, fields_meant, more_meant, alternatives_meant, more_alternatives_meant, demand_meant, list_meant, string_shape, constrained, ranged, sized, with_shape, may_add}
use Rattle.asn_module.proofs.Meanings.{taken, same_some}

-- ---- the types that a tree stands for

string_nodes : (kind : StringKind) (b : SizeRange) → nodes (string_shape kind b) ≡ 1
string_nodes string_kind.Bits b = refl
string_nodes string_kind.Octets b = refl
string_nodes string_kind.Ia5 b = refl
string_nodes string_kind.Numeric b = refl
string_nodes string_kind.Visible b = refl

ranged_nodes : (shape : Shape) (r : RangeNotation) (y : Shape) → ranged shape r ≡ Some y → nodes y ≡ nodes shape
ranged_nodes (s.integer b) r y e = ap nodes (sym (same_some _ y e))
ranged_nodes _ r y e = absurd cc

sized_nodes : (shape : Shape) (size : SizeNotation) (y : Shape) → sized shape size ≡ Some y → nodes y ≡ nodes shape
sized_nodes (s.bit_string b) size y e = ap nodes (sym (same_some _ y e))
sized_nodes (s.octet_string b) size y e = ap nodes (sym (same_some _ y e))
sized_nodes (s.restricted k b) size y e = ap nodes (sym (same_some _ y e))
sized_nodes (s.sequence_of element b) size y e = ap nodes (sym (same_some _ y e))
sized_nodes _ size y e = absurd cc

-- a constraint leaves the number of types
by_constraint : (b marked : Bool) (shape : Shape) (o : Option Shape) (m : Meant) → ((y : Shape) → o ≡ Some y → nodes y ≡ nodes shape) → cond b (o >>= with_shape marked) None ≡ Some m → nodes m.shape ≡ nodes shape
by_constraint false marked shape o m h e = absurd cc
by_constraint true marked shape o m h e =
    let (y, ey, last) = taken o (with_shape marked) m e in
    ap (λ (x : Meant). nodes x.shape) (sym (same_some _ m last)) ∙ h y ey

constrained_nodes : (x : Meant) (c : Constraint) (m : Meant) → constrained x c ≡ Some m → nodes m.shape ≡ nodes x.shape
constrained_nodes x constraint.None m e = ap (λ (y : Meant). nodes y.shape) (sym (same_some x m e))
constrained_nodes x (constraint.Range r) m e = by_constraint (may_add x.constraint r.marked) r.marked x.shape (ranged x.shape r) m (ranged_nodes x.shape r) e
constrained_nodes x (constraint.Size size) m e = by_constraint (may_add x.constraint size.marked) size.marked x.shape (sized x.shape size) m (sized_nodes x.shape size) e

list_nodes : (shape : Shape) (size : ListSize) → nodes (list_meant shape size).shape ≡ suc (nodes shape)
list_nodes shape list_size.Any = refl
list_nodes shape (list_size.Bare size) = refl
list_nodes shape (list_size.Bracketed size) = refl

-- what is meant has the types of what it is said to be
of_shape : (x m : Meant) → Some x ≡ Some m → nodes m.shape ≡ nodes x.shape
of_shape x m e = ap (λ (y : Meant). nodes y.shape) (sym (same_some x m e))

module _ (look : List ℕ → Option Meant) where
  mutual
    unfolding meant

    pub weight_is : (tree : Tree) (m : Meant) → meant look tree ≡ Some m → nodes m.shape ≡ weight look tree
    weight_is t.boolean m e = of_shape _ m e
    weight_is t.null m e = of_shape _ m e
    weight_is t.utf8 m e = of_shape _ m e
    weight_is (t.integer None) m e = of_shape _ m e
    weight_is (t.integer (Some r)) m e = of_shape _ m e
    weight_is (t.enumerated root more) m e = of_shape _ m e
    weight_is (t.text kind None) m e = of_shape _ m e ∙ string_nodes kind _
    weight_is (t.text kind (Some size)) m e = of_shape _ m e ∙ string_nodes kind _
    weight_is (t.sequence root rest) m e =
        let (fs, ef, after) = taken (fields_meant look root) (λ fs. more_meant look rest >>= (λ ms. Some (free (s.sequence fs ms)))) m e in
        let (ms, em, last) = taken (more_meant look rest) (λ ms. Some (free (s.sequence fs ms))) m after in
        of_shape _ m last ∙ rw (fields_weight root fs ef, additions_weight rest ms em) refl
    weight_is (t.sequence_of size element) m e =
        let (x, ex, last) = taken (meant look element) (λ x. Some (list_meant x.shape size)) m e in
        of_shape _ m last ∙ list_nodes x.shape size ∙ ap suc (weight_is element x ex)
    weight_is (t.choice root rest) m e =
        let (xs, ex, after) = taken (alternatives_meant look root) (λ xs. more_alternatives_meant look rest >>= (λ ms. Some (free (s.choice xs ms)))) m e in
        let (ms, em, last) = taken (more_alternatives_meant look rest) (λ ms. Some (free (s.choice xs ms))) m after in
        of_shape _ m last ∙ rw (branches_weight root xs ex, choices_weight rest ms em) refl
    weight_is (t.reference name c) m e =
        let (x, ex, last) = taken (look name) (λ x. constrained x c) m e in
        rw ex (constrained_nodes x c m last)

    fields_weight : (cs : Components) (fs : Fields) → fields_meant look cs ≡ Some fs → fields_nodes fs ≡ components_weight look cs
    fields_weight t.no_components fs e = ap fields_nodes (sym (same_some _ fs e))
    fields_weight (t.component name tree need rest) fs e =
        let (x, ex, after) = taken (meant look tree) (λ x. fields_meant look rest >>= (λ fs. Some (s.field name (demand_meant x.shape need) x.shape fs))) fs e in
        let (inner, ei, last) = taken (fields_meant look rest) (λ inner. Some (s.field name (demand_meant x.shape need) x.shape inner)) fs after in
        ap fields_nodes (sym (same_some _ fs last)) ∙ rw (weight_is tree x ex, fields_weight rest inner ei) refl

    additions_weight : (cs : More) (ms : MoreFields) → more_meant look cs ≡ Some ms → more_nodes ms ≡ more_weight look cs
    additions_weight t.closed ms e = ap more_nodes (sym (same_some _ ms e))
    additions_weight (t.marked rest) ms e =
        let (inner, ei, last) = taken (fields_meant look rest) (λ inner. Some (s.marked inner)) ms e in
        ap more_nodes (sym (same_some _ ms last)) ∙ fields_weight rest inner ei

    branches_weight : (cs : t.Alternatives) (xs : Alternatives) → alternatives_meant look cs ≡ Some xs → choice_nodes xs ≡ alternatives_weight look cs
    branches_weight t.no_alternatives xs e = ap choice_nodes (sym (same_some _ xs e))
    branches_weight (t.alternative name tree rest) xs e =
        let (x, ex, after) = taken (meant look tree) (λ x. alternatives_meant look rest >>= (λ xs. Some (s.one_of name x.shape xs))) xs e in
        let (inner, ei, last) = taken (alternatives_meant look rest) (λ inner. Some (s.one_of name x.shape inner)) xs after in
        ap choice_nodes (sym (same_some _ xs last)) ∙ rw (weight_is tree x ex, branches_weight rest inner ei) refl

    choices_weight : (cs : t.MoreAlternatives) (ms : MoreAlternatives) → more_alternatives_meant look cs ≡ Some ms → more_choice_nodes ms ≡ more_alternatives_weight look cs
    choices_weight t.closed_choice ms e = ap more_choice_nodes (sym (same_some _ ms e))
    choices_weight (t.marked_choice rest) ms e =
        let (inner, ei, last) = taken (alternatives_meant look rest) (λ inner. Some (s.marked_choice inner)) ms e in
        ap more_choice_nodes (sym (same_some _ ms last)) ∙ branches_weight rest inner ei

-- of more types than the profile has, none of the profile is built
pub stuck_by_count : (look : List ℕ → Option Meant) (tree : Tree) (n : ℕ) → n ≡ capped (weight look tree) → 100000 < n → IsStuck look tree
stuck_by_count look tree n e more m h p =
    let few = ltb-false most_nodes (nodes m.shape) (right_false (somewhere too_many_here m.shape) _ (p TooMany)) in
    let same = weight_is look tree m h in
    omega (arith, e, more, few, same)
