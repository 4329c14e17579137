use Rattle.std.proofs.Common.{◌≡◌, drop}
use Rattle.asn_constraints.specs.Times.{are_digits}
use Rattle.asn_constraints.proofs.times.are_digits.Given as goal

-- all codes are digits where those are that are still to be looked at
abbrev pub invariant-loop-code : goal.invariant-loop-code
invariant-loop-code l = are_digits (drop l.code-index l.codes) ≡ are_digits l.codes
