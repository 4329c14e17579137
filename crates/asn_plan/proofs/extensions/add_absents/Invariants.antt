use Rattle.std.proofs.Common.{◌++◌, List, Option}
use Rattle.asn_values.specs.Datum.{Datum}
use Rattle.asn_plan.specs.Plans.{absents}
use Rattle.asn_plan.proofs.extensions.add_absents.Given as goal

abbrev pub invariant-loop : goal.invariant-loop
invariant-loop g l = (s : _) (es : List (Option Datum)) → g.B.Build.listed s l.fn.room l.fn.entries es → g.B.Build.listed s l.room l.entries (es ++ absents l.index)
