use Rattle.std.proofs.Common.{◌≡◌, map, drop}
use Rattle.asn_constraints.specs.Constraints.{are_among}
use Rattle.asn_constraints.specs.View.{interval_of}
use Rattle.asn_constraints.proofs.strings.are_among.Given as goal

-- all codes are in the intervals where those are that are still to be looked at
abbrev pub invariant-loop-code : goal.invariant-loop-code
invariant-loop-code l =
    are_among (map interval_of l.intervals) (drop l.code-index l.codes) ≡ are_among (map interval_of l.intervals) l.codes
