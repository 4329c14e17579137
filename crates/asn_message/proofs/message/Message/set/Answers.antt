use Rattle.std.proofs.Common.{refl}
use Rattle.asn_values.specs.View.{datum_of}
use Rattle.asn_message.proofs.Filled.{whole_value, whole_nested}
use Rattle.asn_message.proofs.message.Message.set.Goals as goal

pub invariant_of-drop : goal.invariant_of-drop
invariant_of-drop c =
    record { nested = whole_nested c.take_room-room.result c.put.new.room (datum_of c.args.value.now) c.take_room-room.ensures.slots (c.in-Some.ensures refl) }

pub returns-in-Some-clause-set : goal.returns-in-Some-clause-set
returns-in-Some-clause-set c some =
    whole_value c.take_room-room.result c.put.new.room (datum_of c.args.value.now) c.take_room-room.ensures.slots c.take_room-room.ensures.absent (c.in-Some.ensures refl)
