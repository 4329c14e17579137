use Rattle.std.proofs.Common.{◌≡◌, ◌∙◌, ◌++◌, ap, sym, slice_get, Some, None}
use Rattle.std.specs.Option.{option_map}
use Rattle.asn_values.specs.LookUp.{added}
use Rattle.asn_values.specs.View.{branch_of, datum_of}
use Rattle.asn_view.specs.Typed.{branch_value}
use Rattle.asn_view.proofs.PartLists.{chosen_of_choice}
use Rattle.asn_view.proofs.view.View.alternative.Goals as goal

pub returns-in-Some : goal.returns-in-Some
returns-in-Some c =
    let arm = c.in-Choice-Choice in
    let found : Some c.in-Some.alternative.now ≡ slice_get (arm.root.items ++ added arm.ext) arm.tag = rw c.deref.ensures.value at c.in-Some.ensures in
    ap (λ x. Some x) c.of_alternative.ensures
    ∙ ap (λ d. Some (branch_value (branch_of c.in-Some.alternative.now) (datum_of d))) c.deref-in-Some.ensures
    ∙ ap (option_map (λ a. branch_value (branch_of a) (datum_of arm.chosen.value))) found
    ∙ sym (chosen_of_choice c.args.self.now.ty.now c.args.self.now.value.now arm.root arm.ext arm.tag arm.chosen arm.is-0 arm.is-1)

pub returns-in-None : goal.returns-in-None
returns-in-None c =
    let arm = c.in-Choice-Choice in
    let found : None ≡ slice_get (arm.root.items ++ added arm.ext) arm.tag = rw c.deref.ensures.value at c.in-None.ensures in
    ap (option_map (λ a. branch_value (branch_of a) (datum_of arm.chosen.value))) found
    ∙ sym (chosen_of_choice c.args.self.now.ty.now c.args.self.now.value.now arm.root arm.ext arm.tag arm.chosen arm.is-0 arm.is-1)
