use Rattle.std.proofs.Common.{◌≡◌, ◌∷◌, [], ◌++◌, List, length, map, sym, ap, subst, ◌∙◌, append_assoc, append-nil, arith}
use Rattle.std.specs.Vec.Iter.{into_iter_items}
use Rattle.asn_newer.specs.declared.path.SkippedAt.{SkippedAt}
use Rattle.asn_newer.specs.Reading.{skipped_at_seen}
use Rattle.asn_newer.specs.Skipped.{inside}
use Rattle.asn_newer.proofs.Walk.PathsRead.{none_left, one_inside}
use Rattle.asn_newer.proofs.path.push_inside.Goals as goal

pub loop-field-preserved : goal.loop-field-preserved
loop-field-preserved c =
    let at = c.loop-field in
    let x = c.in-Some.field in
    let steps : into_iter_items at.field-iterator ≡ x ∷ into_iter_items c.next.new.self = c.in-Some.ensures.steps.0 in (
      append_assoc at.yielded (x ∷ []) _ ∙ rw (← steps) at.invariant.0,
      one_inside c.args.step (skipped_at_seen c.args.skipped.now.items) at.yielded x c.in_ok-inside.field-0 at.skipped.items c.push.new.self.items at.invariant.1 c.in_ok-inside.ensures c.in_ok-push.ensures.items,
      let was = at.invariant.2 in
          let gone = c.in-Some.ensures.steps.1 in
          let short = ap length steps in
          omega arith,
    )

pub returns : goal.returns
returns c =
    let at = c.loop-field in
    let empty : into_iter_items at.field-iterator ≡ [] = none_left _ (sym at.invariant.2 ∙ c.in-None.ensures.steps.0) in
    let all = sym (append-nil at.yielded) ∙ rw empty at at.invariant.0 ∙ c.into_iter-field-iterator.ensures.into_iter_gives.0 in
    subst (λ (l : List SkippedAt). skipped_at_seen at.skipped.items ≡ skipped_at_seen c.args.skipped.now.items ++ map (inside c.args.step) (skipped_at_seen l)) all at.invariant.1
