use Rattle.std.proofs.Common.{◌≡◌, drop}
use Rattle.asn_message.specs.Sources.{slot_elements}
use Rattle.asn_message.proofs.source.LeafedSource.split_elements.Given as goal

-- those after the ones that were passed
abbrev pub invariant-loop-passed : goal.invariant-loop-passed
invariant-loop-passed l = slot_elements l.others ≡ drop l.passed (slot_elements l.fn.elements)
