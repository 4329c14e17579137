use Rattle.std.proofs.Common.{◌≡◌}
use Rattle.asn_published_read.proofs.module_reading.after_source_of.Given as goal

-- the module stands in its text
abbrev pub invariant-loop-symbol : goal.invariant-loop-symbol
invariant-loop-symbol l = l.module.file ≡ l.initial.module.file
