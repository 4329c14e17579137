use Rattle.std.proofs.Common.{◌≡◌}
use Rattle.asn_published_read.proofs.assignments.after_assignments.Given as goal

-- the module stands in its text
abbrev pub invariant-loop : goal.invariant-loop
invariant-loop l = l.module.file ≡ l.initial.module.file
