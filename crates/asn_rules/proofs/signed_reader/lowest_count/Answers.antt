use Rattle.std.proofs.Common.{◌≡◌, true, ⊎_elim, subst, arith}
use Rattle.std.proofs.lemmas.Bool.{cases_lt}
use Rattle.asn_rules.specs.Counted.{SomeOf, LeastSigned}
use Rattle.asn_rules.specs.OffsetSets.{HasInteger}
use Rattle.asn_rules.proofs.Plain.SignedNumbers.{counts_there, counts_back}
use Rattle.asn_rules.proofs.signed_reader.lowest_count.Goals as goal

pub returns-then-has_count-clause-there : goal.returns-then-has_count-clause-there
returns-then-has_count-clause-there c = counts_there c.args.set c.loop-count.count c.requires.gap (omega (arith, c.loop-count.auto)) (c.has_count.ensures.there c.if-has_count.true)

pub returns-then-has_count-clause-back : goal.returns-then-has_count-clause-back
returns-then-has_count-clause-back c = counts_back c.args.set c.loop-count.count c.loop-count.invariant

pub loop-count-preserved : goal.loop-count-preserved
loop-count-preserved c k l o =
    ⊎_elim (λ h. c.loop-count.invariant k h o)
    (λ g. absurd (
    let e : k ≡ c.loop-count.count = omega (arith, l, g) in
    let t : c.has_count.result ≡ true = c.has_count.ensures.back (subst (SomeOf (LeastSigned (λ z. HasInteger c.args.set z))) e o) in
    cc))
    (cases_lt k c.loop-count.count)

pub returns-clause-back : goal.returns-clause-back
returns-clause-back c =
    counts_back c.args.set 9 (λ k l. c.loop-count.invariant k (omega (arith, l, c.loop-count-test.false)))
