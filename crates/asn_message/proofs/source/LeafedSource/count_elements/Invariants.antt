use Rattle.std.proofs.Common.{◌≡◌, ◌+◌, length}
use Rattle.asn_message.specs.Sources.{slot_elements}
use Rattle.asn_message.proofs.source.LeafedSource.count_elements.Given as goal

-- those counted so far, and those that are left
abbrev pub invariant-loop-element : goal.invariant-loop-element
invariant-loop-element l = l.count + length (slot_elements l.left) ≡ length (slot_elements l.fn.elements)

abbrev pub decreases-loop-element : goal.decreases-loop-element
decreases-loop-element l = length (slot_elements l.left)
