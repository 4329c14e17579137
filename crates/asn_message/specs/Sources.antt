-- The entries and the elements in slots that are still to be written.
use Rattle.std.specs.Prelude.{ℕ, List, ◌++◌, take, Option}
use Rattle.asn_values.specs.Datum.{Datum}
use Rattle.asn_plan.specs.Plans.{absents}
use Rattle.asn_message.specs.declared.leafed.SlotElements.{SlotElements}
use Rattle.asn_message.specs.declared.leafed.SlotEntries.{SlotEntries}
use Rattle.asn_message.specs.declared.row.Row.{Row}
use Rattle.asn_message.specs.Rows.{left_entries}
use Rattle.asn_message.specs.Slots.{values_of}

-- the entries that are left in a row, this many, of which these are absent before the first value
abbrev pub entries_at : Row → ℕ → ℕ → List (Option Datum)
entries_at r count before = left_entries (record { row = r; count = count; absent = before })

abbrev pub slot_entries : SlotEntries → List (Option Datum)
slot_entries e = take e.most (entries_at e.first.row e.count e.before ++ absents e.after)

abbrev pub slot_elements : SlotElements → List Datum
slot_elements e = take e.most (values_of (entries_at e.first.row e.count e.before))
