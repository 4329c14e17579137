use Rattle.std.proofs.Common.{◌≡◌, ◌+◌, ◌≤◌, drop}
use Rattle.asn_constraints.specs.Constraints.{scalars}
use Rattle.asn_constraints.proofs.strings.characters_in.Given as goal

-- the characters counted, and those of the octets that are still to be looked at
abbrev pub invariant-loop-octet : goal.invariant-loop-octet
invariant-loop-octet l = (l.count + scalars (drop l.octet-index l.octets) ≡ scalars l.octets) × (l.count ≤ l.octet-index)
