-- What a message stands for.
use Rattle.asn_values.specs.Datum.{Datum}
use Rattle.asn_message.specs.declared.message.Message.{Message}
use Rattle.asn_message.specs.Slots.{value_in}

-- its value
abbrev pub value_seen : Message → Datum
value_seen m = value_in m.room.octets.items m.room.slots.items
