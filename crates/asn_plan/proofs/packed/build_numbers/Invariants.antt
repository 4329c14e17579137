use Rattle.std.proofs.Common.{length}
use Rattle.asn_plan.specs.Plans.{BuiltUpTo}
use Rattle.asn_plan.specs.Words.{before}
use Rattle.asn_plan.proofs.packed.build_numbers.Given as goal

abbrev pub invariant-loop-part : goal.invariant-loop-part
invariant-loop-part g l =
    BuiltUpTo g.R.ReadLeaves.rules (g.B.Build.listed l.fn.room l.room l.entries) l.nodes l.parts l.rest 0 0 0 (before g.R.ReadLeaves.rules l.fn.word (g.R.ReadLeaves.rules.to_units l.fn.units)) (before g.R.ReadLeaves.rules l.word (g.R.ReadLeaves.rules.to_units l.units))
    × g.R.ReadLeaves.rules.at_unit l.units

abbrev pub decreases-loop-part : goal.decreases-loop-part
decreases-loop-part g l = length l.rest
