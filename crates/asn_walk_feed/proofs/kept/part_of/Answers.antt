use Rattle.std.proofs.Common.{◌≡◌, ◌∷◌, [], ℕ, List, map, reverse, length, ap, ◌∙◌, arith}
use Rattle.asn_values.specs.Shape.{Shape, sequence, choice}
use Rattle.asn_values.specs.View.{shape_of, fields_seen, more_fields_of, alternatives_of, more_alternatives_of, branch_of}
use Rattle.asn_values.specs.declared.types.Alt.{Alt}
use Rattle.asn_values.specs.declared.types.Field.{Field}
use Rattle.asn_values.proofs.Views.{shape_of-Seq}
use Rattle.asn_walk.proofs.Parts.{choice_shape}
use Rattle.asn_walk_feed.specs.Keeping.{in_component, in_alternative, kept_in}
use Rattle.asn_walk_feed.specs.declared.frame.Frame.TheVariants as frame
use Rattle.asn_walk_feed.proofs.KeptNodes.{component_at, no_component, alternative_at, no_alternative}
use Rattle.asn_walk_feed.proofs.kept.part_of.Goals as goal

pub returns-then-index-root-clause-some : goal.returns-then-index-root-clause-some
returns-then-index-root-clause-some g c =
    let fs = reverse c.args.inner.now in
    let kept : Shape → List ℕ = λ t. kept_in {F = g.row.F.Denot} fs t in
    let index : c.len-index.result ≡ length c.in-Components-Seq.read.entries.items = omega (arith, c.len-index.ensures, c.in-Components-Seq.read.entries.ok) in
    let at : in_component kept (fields_seen c.as_slice-root.result.now) c.len-index.result ≡ kept (shape_of c.index-root-index.result.ty) = component_at kept c.as_slice-root.result.now c.len-index.result c.index-root-index.result c.if-index-root.true c.index-root-index.is in
    let down : kept_in {F = g.row.F.Denot} (frame.Components c.in-Components-Seq.read ∷ fs) (sequence (fields_seen c.in-Components-Seq.root.items) (more_fields_of c.in-Components-Seq.ext-1)) ≡ kept (shape_of c.index-root-index.result.ty) = rw (c.as_slice-root.ensures.value, index) at at in
    rw (c.in-Components-Seq.is-0, c.in-Components-Seq.is-1, shape_of-Seq c.in-Components-Seq.root c.in-Components-Seq.ext-1) (down ∙ ap (λ (y : Field). kept (shape_of y.ty)) c.index-root-index.is)

pub returns-else-index-root-clause-none : goal.returns-else-index-root-clause-none
returns-else-index-root-clause-none g c = λ z.
    let fs = reverse c.args.inner.now in
    let kept : Shape → List ℕ = λ t. kept_in {F = g.row.F.Denot} fs t in
    let index : c.len-index.result ≡ length c.in-Components-Seq.read.entries.items = omega (arith, c.len-index.ensures, c.in-Components-Seq.read.entries.ok) in
    let at : in_component kept (fields_seen c.as_slice-root.result.now) c.len-index.result ≡ [] = no_component kept c.as_slice-root.result.now c.len-index.result (omega (arith, c.if-index-root.false)) in
    let down : kept_in {F = g.row.F.Denot} (frame.Components c.in-Components-Seq.read ∷ fs) (sequence (fields_seen c.in-Components-Seq.root.items) (more_fields_of c.in-Components-Seq.ext-1)) ≡ [] = rw (c.as_slice-root.ensures.value, index) at at in
    rw (c.in-Components-Seq.is-0, c.in-Components-Seq.is-1, shape_of-Seq c.in-Components-Seq.root c.in-Components-Seq.ext-1) down

pub returns-then-index-root-2-clause-some : goal.returns-then-index-root-2-clause-some
returns-then-index-root-2-clause-some g c =
    let fs = reverse c.args.inner.now in
    let kept : Shape → List ℕ = λ t. kept_in {F = g.row.F.Denot} fs t in
    let at : in_alternative kept (alternatives_of (map branch_of c.as_slice-root-in-Chosen-Choice.result.now)) c.in-Chosen-Choice.index ≡ kept (shape_of c.index-root-index-then-index-root-2.result.ty) = alternative_at kept c.as_slice-root-in-Chosen-Choice.result.now c.in-Chosen-Choice.index c.index-root-index-then-index-root-2.result c.if-index-root-2.true c.index-root-index-then-index-root-2.is in
    let down : kept_in {F = g.row.F.Denot} (frame.Chosen c.in-Chosen-Choice.index ∷ fs) (choice (alternatives_of (map branch_of c.in-Chosen-Choice.root.items)) (more_alternatives_of c.in-Chosen-Choice.ext-1)) ≡ kept (shape_of c.index-root-index-then-index-root-2.result.ty) = rw c.as_slice-root-in-Chosen-Choice.ensures.value at at in
    rw (c.in-Chosen-Choice.is-0, choice_shape c.args.ty.now c.in-Chosen-Choice.root c.in-Chosen-Choice.ext-1 c.in-Chosen-Choice.is-1) (down ∙ ap (λ (y : Alt). kept (shape_of y.ty)) c.index-root-index-then-index-root-2.is)

pub returns-else-index-root-2-clause-none : goal.returns-else-index-root-2-clause-none
returns-else-index-root-2-clause-none g c = λ z.
    let fs = reverse c.args.inner.now in
    let kept : Shape → List ℕ = λ t. kept_in {F = g.row.F.Denot} fs t in
    let at : in_alternative kept (alternatives_of (map branch_of c.as_slice-root-in-Chosen-Choice.result.now)) c.in-Chosen-Choice.index ≡ [] = no_alternative kept c.as_slice-root-in-Chosen-Choice.result.now c.in-Chosen-Choice.index (omega (arith, c.if-index-root-2.false)) in
    let down : kept_in {F = g.row.F.Denot} (frame.Chosen c.in-Chosen-Choice.index ∷ fs) (choice (alternatives_of (map branch_of c.in-Chosen-Choice.root.items)) (more_alternatives_of c.in-Chosen-Choice.ext-1)) ≡ [] = rw c.as_slice-root-in-Chosen-Choice.ensures.value at at in
    rw (c.in-Chosen-Choice.is-0, choice_shape c.args.ty.now c.in-Chosen-Choice.root c.in-Chosen-Choice.ext-1 c.in-Chosen-Choice.is-1) down
