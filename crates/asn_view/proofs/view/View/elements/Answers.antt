use Rattle.std.proofs.Common.{◌∙◌, ap, sym, map}
use Rattle.asn_values.specs.View.{shape_of, datum_of}
use Rattle.asn_view.specs.Typed.{typed}
use Rattle.asn_view.proofs.PartLists.{elements_of_list}
use Rattle.asn_view.proofs.view.View.elements.Goals as goal

pub returns-in-SeqOf-List : goal.returns-in-SeqOf-List
returns-in-SeqOf-List c =
    let arm = c.in-SeqOf-List in
    ap (λ vs. map (λ x. typed (shape_of c.deref.result.now) (datum_of x)) vs) c.as_slice.ensures.value
    ∙ sym (elements_of_list c.args.self.now.ty.now c.deref.result.now c.args.self.now.value.now arm.element arm.field-1-0 arm.values arm.is-0 c.deref.ensures arm.is-1)
