-- What is left of a row of slots.
use Rattle.std.specs.Prelude.{List, [], ◌∷◌, ◌++◌, take, Option, Some, None}
use Rattle.asn_values.specs.Datum.{Datum}
use Rattle.asn_plan.specs.Plans.{absents}
use Rattle.asn_message.specs.declared.left.Left.{Left}
use Rattle.asn_message.specs.declared.row.Row.{Row}
use Rattle.asn_message.specs.Slots.{entries_from, value_in}

-- the value at the first slot
abbrev pub row_value : Row → Datum
row_value r = value_in r.octets.now r.slots.now

-- the entries that are left
abbrev pub left_entries : Left → List (Option Datum)
left_entries l = take l.count (absents l.absent ++ entries_from l.row.octets.now l.row.slots.now)

-- the first of the values, if there is one
abbrev pub first_of_values : List Datum → Option Datum
first_of_values [] = None
first_of_values (d ∷ ds) = Some d
