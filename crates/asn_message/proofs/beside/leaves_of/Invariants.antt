use Rattle.std.proofs.Common.{◌≡◌, map, take}
use Rattle.asn_values.specs.View.{datum_of}
use Rattle.asn_message.specs.Leaves.{leaf_at}
use Rattle.asn_message.proofs.beside.leaves_of.Given as goal

-- the leaves of the slots so far
abbrev pub invariant-loop-slot : goal.invariant-loop-slot
invariant-loop-slot l = map datum_of l.leaves.items ≡ map (λ s. leaf_at l.octets s.content) (take l.slot-index l.slots)
