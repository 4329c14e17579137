use Rattle.std.proofs.Common.{◌≡◌, map, option_map, drop}
use Rattle.asn_values.specs.View.{datum_of}
use Rattle.asn_constraints.specs.Constraints.{one_present}
use Rattle.asn_constraints.proofs.judging.is_one_present.Given as goal

-- some entry is there where one of those is that are still to be looked at
abbrev pub invariant-loop-entry : goal.invariant-loop-entry
invariant-loop-entry l =
    one_present (map (option_map datum_of) (drop l.entry-index l.entries)) ≡ one_present (map (option_map datum_of) l.entries)
