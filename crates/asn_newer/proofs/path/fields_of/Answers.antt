use Rattle.std.proofs.Common.{◌≡◌, ◌∷◌, [], List, length, sym, ap, subst, ◌∙◌, append_assoc, append-nil, arith}
use Rattle.std.specs.Vec.Iter.{into_iter_items}
use Rattle.asn_newer.specs.declared.path.SkippedAt.{SkippedAt}
use Rattle.asn_newer.specs.Reading.{skipped_seen, skipped_at_seen}
use Rattle.asn_newer.specs.Skipped.{fields_of_all}
use Rattle.asn_newer.proofs.Walk.PathsRead.{none_left, one_field}
use Rattle.asn_newer.proofs.path.fields_of.Goals as goal

pub loop-one-preserved : goal.loop-one-preserved
loop-one-preserved c =
    let at = c.loop-one in
    let x = c.in-Some.one in
    let steps : into_iter_items at.one-iterator ≡ x ∷ into_iter_items c.next.new.self = c.in-Some.ensures.steps.0 in (
      append_assoc at.yielded (x ∷ []) _ ∙ rw (← steps) at.invariant.0,
      one_field at.yielded x at.fields.items c.push.new.self.items at.invariant.1 c.in_ok-push.ensures.items,
      let was = at.invariant.2 in
          let gone = c.in-Some.ensures.steps.1 in
          let short = ap length steps in
          omega arith,
    )

pub returns : goal.returns
returns c =
    let at = c.loop-one in
    let empty : into_iter_items at.one-iterator ≡ [] = none_left _ (sym at.invariant.2 ∙ c.in-None.ensures.steps.0) in
    let all = sym (append-nil at.yielded) ∙ rw empty at at.invariant.0 ∙ c.into_iter-one-iterator.ensures.into_iter_gives.0 in
    subst (λ (l : List SkippedAt). skipped_seen at.fields.items ≡ fields_of_all (skipped_at_seen l)) all at.invariant.1
