use Rattle.std.proofs.Common.{drop}
use Rattle.asn_plan.proofs.Nothings.{CountedUpTo}
use Rattle.asn_plan.proofs.nothing.entries_of.Given as goal

abbrev pub invariant-loop-part : goal.invariant-loop-part
invariant-loop-part l = CountedUpTo l.single l.entries l.first (drop l.part-index l.first)
