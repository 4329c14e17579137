use Rattle.std.proofs.Common.{◌∙◌, ◌++◌, ap₂, sym, map}
use Rattle.asn_values.specs.LookUp.{added}
use Rattle.asn_values.specs.View.{part_of_field, entries_seen}
use Rattle.asn_view.specs.Typed.{values_of_parts}
use Rattle.asn_view.proofs.PartLists.{components_of_sequence}
use Rattle.asn_view.proofs.view.View.components.Goals as goal

pub returns-in-Seq-Seq : goal.returns-in-Seq-Seq
returns-in-Seq-Seq c =
    let arm = c.in-Seq-Seq in
    c.new.ensures
    ∙ ap₂ (λ fs es. values_of_parts (map part_of_field (fs ++ added arm.ext)) (entries_seen es)) c.deref.ensures.value c.deref-in-Seq-Seq.ensures.value
    ∙ sym (components_of_sequence c.args.self.now.ty.now c.args.self.now.value.now arm.root arm.ext arm.entries arm.is-0 arm.is-1)
