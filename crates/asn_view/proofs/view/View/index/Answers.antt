use Rattle.std.proofs.Common.{◌≡◌, ◌∙◌, refl, ap, sym, slice_get, Some, None}
use Rattle.std.specs.Option.{option_map}
use Rattle.std.proofs.lemmas.Option.{slice_get-map}
use Rattle.asn_values.specs.View.{shape_of, datum_of}
use Rattle.asn_view.specs.Typed.{typed}
use Rattle.asn_view.proofs.PartLists.{elements_of_list}
use Rattle.asn_view.proofs.view.View.index.Goals as goal

pub returns-in-Some : goal.returns-in-Some
returns-in-Some c =
    let arm = c.in-SeqOf-List in
    let found : Some c.in-Some.value.now ≡ slice_get arm.values.items c.args.index = rw c.deref.ensures.value at c.in-Some.ensures in
    ap (option_map (λ x. typed (shape_of c.deref-in-Some.result.now) (datum_of x))) found
    ∙ sym (slice_get-map (λ x. typed (shape_of c.deref-in-Some.result.now) (datum_of x)) arm.values.items c.args.index)
    ∙ ap (λ vs. slice_get vs c.args.index) (sym (elements_of_list c.args.self.now.ty.now c.deref-in-Some.result.now c.args.self.now.value.now arm.element arm.field-1-0 arm.values arm.is-0 c.deref-in-Some.ensures arm.is-1))

pub returns-in-None : goal.returns-in-None
returns-in-None c =
    let arm = c.in-SeqOf-List in
    let found : None ≡ slice_get arm.values.items c.args.index = rw c.deref.ensures.value at c.in-None.ensures in
    ap (option_map (λ x. typed (shape_of arm.element.value) (datum_of x))) found
    ∙ sym (slice_get-map (λ x. typed (shape_of arm.element.value) (datum_of x)) arm.values.items c.args.index)
    ∙ ap (λ vs. slice_get vs c.args.index) (sym (elements_of_list c.args.self.now.ty.now arm.element.value c.args.self.now.value.now arm.element arm.field-1-0 arm.values arm.is-0 refl arm.is-1))
