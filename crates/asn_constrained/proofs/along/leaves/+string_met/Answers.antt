use Rattle.asn_constrained.proofs.FixedStrings.{no_default, length_met}
use Rattle.asn_constrained.proofs.along.leaves.+string_met.Goals as goal

pub returns-in-Except : goal.returns-in-Except
returns-in-Except t c = λ some d s.
    no_default c.args.constraint.now c.in-Except.default c.args.fixed.now c.args.number c.may_be.result c.in-Except.is c.may_be.ensures (c.some_if.ensures some) d s

pub returns-in-Lengths : goal.returns-in-Lengths
returns-in-Lengths t c = λ some d s.
    length_met c.args.constraint.now c.in-Lengths.lengths c.deref.result.now c.args.fixed.now c.args.number c.is_length.result c.in-Lengths.is c.deref.ensures.value c.is_length.ensures (c.some_if-in-Lengths.ensures some) d s
