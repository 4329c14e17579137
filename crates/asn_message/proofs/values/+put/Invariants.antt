use Rattle.std.proofs.Common.{map, option_map, take}
use Rattle.asn_values.specs.View.{datum_of}
use Rattle.asn_message.specs.Building.{AreEntries, AreElements}
use Rattle.asn_message.proofs.values.+put.Given as goal

abbrev pub invariant-put_entries-loop-entry : goal.invariant-put_entries-loop-entry
invariant-put_entries-loop-entry l =
    AreEntries l.fn.room l.room l.begun (map (option_map datum_of) (take l.entry-index l.entry-items))

abbrev pub invariant-put_elements-loop-element : goal.invariant-put_elements-loop-element
invariant-put_elements-loop-element l =
    AreElements l.fn.room l.room l.begun (map datum_of (take l.element-index l.element-items))
