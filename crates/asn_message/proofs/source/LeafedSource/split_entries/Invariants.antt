use Rattle.std.proofs.Common.{◌≡◌, drop}
use Rattle.asn_message.specs.Sources.{slot_entries}
use Rattle.asn_message.proofs.source.LeafedSource.split_entries.Given as goal

-- those after the ones that were passed
abbrev pub invariant-loop-passed : goal.invariant-loop-passed
invariant-loop-passed l = slot_entries l.others ≡ drop l.passed (slot_entries l.fn.entries)
