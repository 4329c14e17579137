use Rattle.std.proofs.Common.{◌≡◌, map, drop}
use Rattle.asn_constraints.specs.Constraints.{is_among}
use Rattle.asn_constraints.specs.View.{interval_of}
use Rattle.asn_constraints.proofs.strings.is_among.Given as goal

-- the number lies in one of the intervals where it lies in one of those that are still to be looked at
abbrev pub invariant-loop-interval : goal.invariant-loop-interval
invariant-loop-interval l =
    is_among (map interval_of (drop l.interval-index l.intervals)) l.number ≡ is_among (map interval_of l.intervals) l.number
