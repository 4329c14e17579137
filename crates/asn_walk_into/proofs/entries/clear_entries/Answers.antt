use Rattle.std.proofs.Common.{◌≡◌, ◌∙◌, None, sym, arith}
use Rattle.std.proofs.lemmas.List.{length-set}
use Rattle.asn_walk_into.proofs.Overwritten.{cleared_more, cleared_all}
use Rattle.asn_walk_into.proofs.entries.clear_entries.Goals as goal

pub loop-field-preserved : goal.loop-field-preserved
loop-field-preserved c =
    let i : c.loop-field.at ≡ c.loop-field.field-index = c.loop-field.invariant.1 in (
      rw (← i) (cleared_more c.loop-field.entries c.args.additions.now c.loop-field.at c.field-item.result (omega (arith, c.loop-field-test.true, i, c.loop-field.invariant.2)) (omega (arith, c.loop-field-test.true, i)) (rw (← i) at c.field-item.is) ∙ rw (← i) at c.loop-field.invariant.0),
      omega (arith, i),
      length-set c.loop-field.entries c.loop-field.at None ∙ c.loop-field.invariant.2,
    )

pub returns : goal.returns
returns c =
    let i : c.loop-field.at ≡ c.loop-field.field-index = c.loop-field.invariant.1 in
    sym (cleared_all c.loop-field.entries c.args.additions.now c.loop-field.at (omega (arith, c.loop-field-test.false, i, c.loop-field.invariant.2)) (omega (arith, c.loop-field-test.false, i))) ∙ rw (← i) at c.loop-field.invariant.0
