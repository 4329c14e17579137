use Rattle.std.proofs.Common.{◌≡◌, ◌∙◌, ◌++◌, ap, sym, slice_get, Some, None}
use Rattle.std.specs.Option.{option_map}
use Rattle.asn_values.specs.LookUp.{added}
use Rattle.asn_values.specs.View.{branch_of}
use Rattle.asn_view.specs.Typed.{branch_value}
use Rattle.asn_message.specs.Places.{place_value}
use Rattle.asn_message.proofs.ViewParts.{chosen_of_tag}
use Rattle.asn_message.proofs.view.MessageView.alternative.Goals as goal

pub returns-in_err-alternative : goal.returns-in_err-alternative
returns-in_err-alternative c =
    let arm = c.in-Choice in
    let found : None ≡ slice_get (arm.root.items ++ added arm.ext) c.in_ok-tag.tag = rw c.deref.ensures.value at c.in_err-alternative.ensures in
    rw c.from_residual-in_err-alternative.ensures
    (ap (option_map (λ a. branch_value (branch_of a) (place_value c.in_ok-tag.place))) found
    ∙ sym (chosen_of_tag c.args.self.now.ty.now (place_value c.args.self.now.place) (place_value c.in_ok-tag.place) arm.root arm.ext c.in_ok-tag.tag arm.is c.in_ok-tag.ensures.some))

pub returns : goal.returns
returns c =
    let arm = c.in-Choice in
    let found : Some c.in_ok-alternative.alternative.now ≡ slice_get (arm.root.items ++ added arm.ext) c.in_ok-tag.tag = rw c.deref.ensures.value at c.in_ok-alternative.ensures in
    ap (λ x. Some x) c.of_alternative.ensures
    ∙ ap (option_map (λ a. branch_value (branch_of a) (place_value c.in_ok-tag.place))) found
    ∙ sym (chosen_of_tag c.args.self.now.ty.now (place_value c.args.self.now.place) (place_value c.in_ok-tag.place) arm.root arm.ext c.in_ok-tag.tag arm.is c.in_ok-tag.ensures.some)
