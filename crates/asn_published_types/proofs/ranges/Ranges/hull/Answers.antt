-- The slice is the list of the ranges.
use Rattle.std.proofs.Common.{subst, sym}
use Rattle.asn_published_types.specs.Numbers.{AreFrom, AreTo}
use Rattle.asn_published_types.proofs.ranges.Ranges.hull.Goals as goal

pub returns-in-Some-clause-lowest : goal.returns-in-Some-clause-lowest
returns-in-Some-clause-lowest c n all =
    c.in-Some.ensures.lowest n (subst (λ s. AreFrom n s) (sym c.as_slice.ensures.value) all)

pub returns-in-Some-clause-highest : goal.returns-in-Some-clause-highest
returns-in-Some-clause-highest c n all =
    c.in-Some.ensures.highest n (subst (λ s. AreTo n s) (sym c.as_slice.ensures.value) all)
