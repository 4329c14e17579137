-- The bounds of all come from those of the first and of the rest.
use Rattle.std.proofs.Common.{◌∷◌, subst}
use Rattle.asn_published_types.specs.Numbers.{AreFrom, AreTo}
use Rattle.asn_published_types.proofs.ranges.+around_all.Goals as goal

pub returns-in-Some-clause-lowest : goal.returns-in-Some-clause-lowest
returns-in-Some-clause-lowest _ c n own others =
    let split : AreFrom n (c.in-Some.range ∷ c.in-Some.rest.now) =
    subst (λ s. AreFrom n s) c.in-Some.ensures.some others
    in c.around_all.ensures.lowest n (c.around.ensures.lowest n (own, split.0)) split.1

pub returns-in-Some-clause-highest : goal.returns-in-Some-clause-highest
returns-in-Some-clause-highest _ c n own others =
    let split : AreTo n (c.in-Some.range ∷ c.in-Some.rest.now) =
    subst (λ s. AreTo n s) c.in-Some.ensures.some others
    in c.around_all.ensures.highest n (c.around.ensures.highest n (own, split.0)) split.1
