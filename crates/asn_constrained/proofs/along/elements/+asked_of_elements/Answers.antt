use Rattle.std.proofs.Common.{refl}
use Rattle.asn_constrained.proofs.Passing.{elements_asked, length_asked}
use Rattle.asn_constrained.proofs.along.elements.+asked_of_elements.Goals as goal

pub returns-in-Elements : goal.returns-in-Elements
returns-in-Elements t c = λ ds met. elements_asked c.args.constraint.now c.in-Elements.each c.deref.result _ ds c.in-Elements.is c.deref.ensures refl met

pub returns-in-Lengths : goal.returns-in-Lengths
returns-in-Lengths t c = λ ds met. length_asked c.args.constraint.now c.in-Lengths.lengths c.as_slice.result _ ds c.in-Lengths.is c.as_slice.ensures.value refl met
