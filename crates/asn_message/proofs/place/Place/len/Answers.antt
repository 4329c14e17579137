use Rattle.std.proofs.Common.{◌∙◌, ap, sym, drop, []}
use Rattle.asn_message.specs.Slots.{entries_in, value_in}
use Rattle.asn_message.specs.Places.{place_value}
use Rattle.asn_view.specs.Typed.{length_of}
use Rattle.asn_message.proofs.ViewParts.{length_of_list}
use Rattle.asn_message.proofs.place.Place.len.Goals as goal

pub returns-in-Some-List : goal.returns-in-Some-List
returns-in-Some-List c =
    let arm = c.in-Some-List in
    let row = c.in-Slots.row in
    let os = row.octets.now in
    length_of_list (value_in os row.slots.now) arm.field-0 os (entries_in os (drop 1 row.slots.now) []) arm.count arm.field-0-is arm.ensures.some arm.ensures.counted
    ∙ sym (ap (λ p. length_of (place_value p)) c.in-Slots.is)
