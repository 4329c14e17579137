use Rattle.std.proofs.Common.{◌+◌, length}
use Rattle.asn_published_report.proofs.Search.{Searching, weight}
use Rattle.asn_published_report.proofs.way.parts_of.Given as goal

abbrev pub invariant-loop-at : goal.invariant-loop-at
invariant-loop-at l = Searching l.report l.index l.marks.items l.todo.items

abbrev pub decreases-loop-at : goal.decreases-loop-at
decreases-loop-at l = weight l.report l.marks.items + length l.todo.items
