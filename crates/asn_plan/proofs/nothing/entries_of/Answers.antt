use Rattle.std.proofs.Common.{◌≡◌, ◌+◌, ◌<◌, ℕ, drop, false, Option, Some, None, is_some, refl, sym, ◌∙◌, subst, arith}
use Rattle.std.proofs.lemmas.Bool.{true≢false}
use Rattle.std.proofs.lemmas.List.{drop_all}
use Rattle.asn_plan.proofs.Building.{next_node}
use Rattle.asn_plan.proofs.Nothings.{CountedUpTo, counted_further, counted_ends}
use Rattle.asn_plan.proofs.nothing.entries_of.Goals as goal

pub loop-part-preserved : goal.loop-part-preserved
loop-part-preserved c =
    let h = rw (next_node c.args.first.now c.loop-part.part-index c.part-item.result c.loop-part-test.true c.part-item.is) at c.loop-part.invariant in
    let more = c.entries_if_nothing-more.result in
    let some : 0 < more = omega (arith, c.if-more-eq0.false) in
    let sum : c.loop-part.entries + more ≡ c.in-Some.all = omega (arith, c.in-Some.ensures) in
    subst (λ (n : ℕ). CountedUpTo c.args.single n c.args.first.now (drop (c.loop-part.part-index + 1) c.args.first.now)) sum (counted_further h more (c.entries_if_nothing-more.ensures some))

none_of : (o : Option ℕ) → is_some o ≡ false → o ≡ None
none_of None e = refl
none_of (Some n) e = absurd (true≢false e)

pub returns : goal.returns
returns c some =
    (none_of c.args.additions (sym c.is_some.ensures ∙ c.if-is_some.false), λ ns root p. counted_ends c.loop-part.invariant (drop_all c.loop-part.part-index c.args.first.now c.loop-part-test.false) ns root p)
