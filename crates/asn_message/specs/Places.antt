-- Values in slots, or as trees where they are the DEFAULT of a type.
use Rattle.std.specs.Prelude.{List, map, Option}
use Rattle.asn_values.specs.Datum.{Datum}
use Rattle.asn_values.specs.View.{datum_of, entries_seen}
use Rattle.asn_message.specs.declared.place.ElementsLeft.{ElementsLeft}
use Rattle.asn_message.specs.declared.place.ElementsLeft.TheVariants as elements
use Rattle.asn_message.specs.declared.place.EntriesLeft.{EntriesLeft}
use Rattle.asn_message.specs.declared.place.EntriesLeft.TheVariants as entries
use Rattle.asn_message.specs.declared.place.Place.{Place}
use Rattle.asn_message.specs.declared.place.Place.TheVariants as place
use Rattle.asn_message.specs.Rows.{row_value, left_entries}
use Rattle.asn_message.specs.Slots.{values_of}

-- the value there
abbrev pub place_value : Place → Datum
place_value (place.Slots r) = row_value r
place_value (place.Tree v) = datum_of v.now

-- the entries that are left of a SEQUENCE
abbrev pub entries_of_left : EntriesLeft → List (Option Datum)
entries_of_left (entries.Slots l) = left_entries l
entries_of_left (entries.Tree es) = entries_seen es.now

-- the elements that are left of a SEQUENCE OF
abbrev pub values_of_left : ElementsLeft → List Datum
values_of_left (elements.Slots l) = values_of (left_entries l)
values_of_left (elements.Tree vs) = map datum_of vs.now
