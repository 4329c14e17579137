use Rattle.std.proofs.Common.{sym}
use Rattle.asn_message.specs.Places.{place_value, values_of_left}
use Rattle.asn_message.proofs.ViewParts.{elements_of_values}
use Rattle.asn_message.proofs.view.MessageView.elements.Goals as goal

pub returns-in-Some : goal.returns-in-Some
returns-in-Some c =
    let arm = c.in-SeqOf in
    sym (elements_of_values c.args.self.now.ty.now c.deref.result.now (place_value c.args.self.now.place) arm.element arm.field-1 (values_of_left c.in-Some.values) arm.is c.deref.ensures c.in-Some.ensures.some)
