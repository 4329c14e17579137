-- The bounds of all come from those of the first and of the rest.
use Rattle.std.proofs.Common.{◌∷◌, subst}
use Rattle.asn_published_types.specs.Numbers.{AreFrom, AreTo}
use Rattle.asn_published_types.proofs.ranges.hull_of.Goals as goal

pub returns-in-Some-clause-lowest : goal.returns-in-Some-clause-lowest
returns-in-Some-clause-lowest c n all =
    let split : AreFrom n (c.in-Some.first ∷ c.in-Some.rest.now) =
    subst (λ s. AreFrom n s) c.in-Some.ensures.some all
    in c.around_all.ensures.lowest n split.0 split.1

pub returns-in-Some-clause-highest : goal.returns-in-Some-clause-highest
returns-in-Some-clause-highest c n all =
    let split : AreTo n (c.in-Some.first ∷ c.in-Some.rest.now) =
    subst (λ s. AreTo n s) c.in-Some.ensures.some all
    in c.around_all.ensures.highest n split.0 split.1
