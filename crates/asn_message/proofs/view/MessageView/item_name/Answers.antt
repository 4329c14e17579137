use Rattle.std.proofs.Common.{◌≡◌, ◌∙◌, ◌++◌, ap, sym, slice_get, Some, None}
use Rattle.std.specs.Option.{option_map}
use Rattle.asn_values.specs.LookUp.{added}
use Rattle.asn_values.specs.View.{label_of}
use Rattle.asn_message.specs.Places.{place_value}
use Rattle.asn_message.proofs.ViewParts.{item_of_index}
use Rattle.asn_message.proofs.view.MessageView.item_name.Goals as goal

pub returns-in_err-item : goal.returns-in_err-item
returns-in_err-item c =
    let arm = c.in-Enum in
    let found : None ≡ slice_get (arm.root.items ++ added arm.ext) c.in_ok-index.index = rw c.deref.ensures.value at c.in_err-item.ensures in
    rw c.from_residual-in_err-item.ensures
    (ap (option_map (λ i. (label_of i).name)) found
    ∙ sym (item_of_index c.args.self.now.ty.now (place_value c.args.self.now.place) arm.root arm.ext c.in_ok-index.index arm.is c.in_ok-index.ensures.some))

pub returns : goal.returns
returns c =
    let arm = c.in-Enum in
    let found : Some c.in_ok-item.item.now ≡ slice_get (arm.root.items ++ added arm.ext) c.in_ok-index.index = rw c.deref.ensures.value at c.in_ok-item.ensures in
    ap (λ x. Some x) c.as_str.ensures.value ∙ ap (option_map (λ i. (label_of i).name)) found
    ∙ sym (item_of_index c.args.self.now.ty.now (place_value c.args.self.now.place) arm.root arm.ext c.in_ok-index.index arm.is c.in_ok-index.ensures.some)
