use Rattle.std.proofs.Common.{◌∙◌, ◌++◌, ap, sym}
use Rattle.asn_values.specs.LookUp.{added}
use Rattle.asn_view.specs.Seen.{parts_seen}
use Rattle.asn_view.specs.Typed.{values_of_parts}
use Rattle.asn_message.specs.Places.{place_value, entries_of_left}
use Rattle.asn_message.proofs.ViewParts.{components_of_entries}
use Rattle.asn_message.proofs.view.MessageView.components.Goals as goal

pub returns-in-Some : goal.returns-in-Some
returns-in-Some c =
    let arm = c.in-Seq in
    let left = c.in-Some.ensures.some in
    c.new.ensures
    ∙ ap (λ fs. values_of_parts (parts_seen (fs ++ added arm.ext)) (entries_of_left c.in-Some.entries)) c.deref.ensures.value
    ∙ sym (components_of_entries c.args.self.now.ty.now (place_value c.args.self.now.place) arm.root arm.ext (entries_of_left c.in-Some.entries) left.0 arm.is left.1)
