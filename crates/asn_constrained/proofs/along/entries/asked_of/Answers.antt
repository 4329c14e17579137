use Rattle.std.proofs.Common.{refl}
use Rattle.asn_constrained.proofs.Passing.{components_asked, some_asked}
use Rattle.asn_constrained.proofs.along.entries.asked_of.Goals as goal

pub returns-in-Components : goal.returns-in-Components
returns-in-Components c = λ es met. components_asked c.args.constraint.now c.in-Components.components _ es c.in-Components.is c.as_slice.ensures.value met

pub returns-in-SomePresent : goal.returns-in-SomePresent
returns-in-SomePresent c = λ es met. some_asked c.args.constraint.now _ es c.in-SomePresent.is refl met
