use Rattle.std.proofs.Common.{◌≡◌}
use Rattle.asn_published_read.proofs.module_reading.after_imports.Given as goal

-- the module stands in its text
abbrev pub invariant-loop : goal.invariant-loop
invariant-loop l = l.module.file ≡ l.initial.module.file
