use Rattle.std.proofs.Common.{◌≡◌, map, drop}
use Rattle.asn_constraints.specs.Constraints.{is_length}
use Rattle.asn_constraints.specs.View.{lengths_of}
use Rattle.asn_constraints.proofs.strings.is_length.Given as goal

abbrev pub invariant-loop-bounds : goal.invariant-loop-bounds
invariant-loop-bounds l =
    is_length (map lengths_of (drop l.bounds-index l.lengths)) l.length ≡ is_length (map lengths_of l.lengths) l.length
