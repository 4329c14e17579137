use Rattle.std.proofs.Common.{◌≡◌, ◌∙◌, ◌++◌, ap, sym, slice_get, Some, None}
use Rattle.std.specs.Option.{option_map}
use Rattle.asn_values.specs.LookUp.{added}
use Rattle.asn_values.specs.View.{label_of}
use Rattle.asn_view.proofs.PartLists.{item_name_of_items}
use Rattle.asn_view.proofs.view.View.item_name.Goals as goal

pub returns-in-Some : goal.returns-in-Some
returns-in-Some c =
    let arm = c.in-Enum-Enum in
    let found : Some c.in-Some.item.now ≡ slice_get (arm.root.items ++ added arm.ext) arm.index = rw c.deref.ensures.value at c.in-Some.ensures in
    ap (λ x. Some x) c.as_str.ensures.value ∙ ap (option_map (λ i. (label_of i).name)) found
    ∙ sym (item_name_of_items c.args.self.now.ty.now c.args.self.now.value.now arm.root arm.ext arm.index arm.is-0 arm.is-1)

pub returns-in-None : goal.returns-in-None
returns-in-None c =
    let arm = c.in-Enum-Enum in
    let found : None ≡ slice_get (arm.root.items ++ added arm.ext) arm.index = rw c.deref.ensures.value at c.in-None.ensures in
    ap (option_map (λ i. (label_of i).name)) found
    ∙ sym (item_name_of_items c.args.self.now.ty.now c.args.self.now.value.now arm.root arm.ext arm.index arm.is-0 arm.is-1)
