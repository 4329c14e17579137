use Rattle.std.proofs.Common.{◌≡◌, ◌∷◌, [], List, reverse, inl, inr, refl, sym, ◌∙◌}
use Rattle.asn_values.specs.View.{shape_of}
use Rattle.asn_values.proofs.Views.{shape_of-Utf8}
use Rattle.asn_walk_feed.specs.Keeping.{kept_in, octets_of, GoesDown}
use Rattle.asn_walk_feed.proofs.KeptNodes.{innermost, other_octets, none_kept}
use Rattle.asn_walk_feed.proofs.kept.kept_in.Goals as goal

pub returns-in-Utf8 : goal.returns-in-Utf8
returns-in-Utf8 g c =
    let here = innermost c.loop-node.nodes.now c.in-Some.inner.now c.in-Some.node.now (shape_of c.loop-node.part.now) _ c.in-Some.ensures.cases.0 c.loop-node.invariant in
    c.as_slice.ensures.value ∙ (rw (c.in-Octets.is, c.in-Utf8.is, shape_of-Utf8) at here)

pub returns-in_default-part : goal.returns-in_default-part
returns-in_default-part g c =
    let here = innermost c.loop-node.nodes.now c.in-Some.inner.now c.in-Some.node.now (shape_of c.loop-node.part.now) _ c.in-Some.ensures.cases.0 c.loop-node.invariant in
    sym (other_octets c.in-Octets.octets (reverse c.in-Some.inner.now) c.loop-node.part.now c.in_default-part.not-Utf8) ∙ (rw c.in-Octets.is at here)

pub part_of-requires : goal.part_of-requires
part_of-requires g c = elim c.in-Elements.is [ inl (q, e) ↦ rw e tt | inr (inl (q, e)) ↦ rw e tt | inr (inr (i, e)) ↦ rw e tt ]

pub returns-in_default-part_of : goal.returns-in_default-part_of
returns-in_default-part_of g c =
    let here = innermost c.loop-node.nodes.now c.in-Some.inner.now c.in-Some.node.now (shape_of c.loop-node.part.now) _ c.in-Some.ensures.cases.0 c.loop-node.invariant in
    sym (c.in_default-part_of.ensures.none refl) ∙ here

pub loop-node-preserved : goal.loop-node-preserved
loop-node-preserved g c =
    let here = innermost c.loop-node.nodes.now c.in-Some.inner.now c.in-Some.node.now (shape_of c.loop-node.part.now) _ c.in-Some.ensures.cases.0 c.loop-node.invariant in
    sym c.in-Some-part_of.ensures.some ∙ here

pub returns-in-Start : goal.returns-in-Start
returns-in-Start g c =
    let here = innermost c.loop-node.nodes.now c.in-Some.inner.now c.in-Some.node.now (shape_of c.loop-node.part.now) _ c.in-Some.ensures.cases.0 c.loop-node.invariant in
    elim c.in-Start.is [ inl (b, e) ↦ (rw e at here) | inr (p, e) ↦ (rw e at here) ]

pub returns-in-Additions : goal.returns-in-Additions
returns-in-Additions g c =
    let here = innermost c.loop-node.nodes.now c.in-Some.inner.now c.in-Some.node.now (shape_of c.loop-node.part.now) _ c.in-Some.ensures.cases.0 c.loop-node.invariant in
    elim c.in-Additions.is [ inl (q, e) ↦ c.octets_of.ensures ∙ (rw e at here) | inr (i, e) ↦ c.octets_of.ensures ∙ (rw e at here) ]

pub returns : goal.returns
returns g c = sym (none_kept c.loop-node.nodes.now (shape_of c.loop-node.part.now) c.in_default.ensures.cases) ∙ c.loop-node.invariant
