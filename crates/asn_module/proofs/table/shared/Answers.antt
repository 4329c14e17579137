use Rattle.std.proofs.Common.{◌≡◌, ◌∙◌, Some, sym, ap, subst}
use Rattle.asn_values.specs.View.{shape_of}
use Rattle.asn_values.specs.Profile.{InProfile}
use Rattle.asn_module.specs.Known.{known_view, look}
use Rattle.asn_module.specs.Meaning.{constrained}
use Rattle.asn_module.proofs.Copies.{reference_meant}
use Rattle.asn_module.proofs.table.shared.Goals as goal

pub returns : goal.returns
returns c =
    let r = c.in-Reference in
    let known = c.in-Some.known.now in
    let m = known_view known in
    let meaning = reference_meant (look c.args.names.now) c.args.ty.now r.name r.constraint r.left m r.is c.in-Some.ensures in
    let copied : c.in_ok-copy.field-0 ≡ known.ty = c.in_ok-copy.ensures in (
      meaning ∙ ap (constrained m) c.in-None.is ∙ ap (λ t. Some (record { shape = shape_of t; constraint = known.constraint })) (sym copied),
      subst (λ t. InProfile (shape_of t)) (sym copied) c.get-tree.ensures.of_profile,
    )
