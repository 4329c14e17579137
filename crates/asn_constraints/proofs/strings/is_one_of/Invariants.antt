use Rattle.std.proofs.Common.{◌≡◌, drop}
use Rattle.asn_constraints.specs.Constraints.{is_one_of}
use Rattle.asn_constraints.proofs.strings.is_one_of.Given as goal

abbrev pub invariant-loop-other : goal.invariant-loop-other
invariant-loop-other l = is_one_of (drop l.other-index l.positions) l.position ≡ is_one_of l.positions l.position
