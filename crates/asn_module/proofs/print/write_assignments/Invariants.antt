use Rattle.std.proofs.Common.{◌≡◌, ◌++◌, drop}
use Rattle.std.specs.Prelude.{string_bytes}
use Rattle.asn_module.specs.Known.{types_of}
use Rattle.asn_module.specs.Printing.{lines_printed}
use Rattle.asn_module.proofs.print.write_assignments.Given as goal

abbrev pub invariant-loop-named : goal.invariant-loop-named
invariant-loop-named l = string_bytes l.out ++ lines_printed (types_of (drop l.named-index l.types)) ≡ string_bytes l.fn.out ++ lines_printed (types_of l.types)
