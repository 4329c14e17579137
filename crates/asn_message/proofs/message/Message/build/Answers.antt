use Rattle.std.proofs.Common.{sym, subst}
use Rattle.asn_values.specs.View.{shape_of}
use Rattle.asn_rules.specs.Answer.{IsEncoding}
use Rattle.asn_message.proofs.Filled.{whole_value, whole_nested}
use Rattle.asn_message.proofs.message.Message.build.Goals as goal

pub invariant_of-drop : goal.invariant_of-drop
invariant_of-drop g c =
    let m = c.in-Some.ensures.some in
    record { nested = whole_nested c.take_room-room.result c.build.new.room m.value c.take_room-room.ensures.slots m.of_value }

pub returns-in-Some-clause-value : goal.returns-in-Some-clause-value
returns-in-Some-clause-value g c some =
    let m = c.in-Some.ensures.some in
    let is = whole_value c.take_room-room.result c.build.new.room m.value c.take_room-room.ensures.slots c.take_room-room.ensures.absent m.of_value in
    subst (λ d. IsEncoding g.R.Rules.ruling (shape_of c.args.planned.now) d c.args.octets.now) (sym is) m.encoding
