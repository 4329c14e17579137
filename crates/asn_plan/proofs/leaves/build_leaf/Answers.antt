use Rattle.std.proofs.Common.{◌≡◌, ◌∙◌, false, refl, ap}
use Rattle.asn_values.specs.Shape.{null}
use Rattle.asn_values.specs.View.{shape_of}
use Rattle.asn_values.proofs.Views.{shape_of-Null}
use Rattle.asn_plan.specs.Nothing.{only_value}
use Rattle.asn_plan.proofs.Nothings.{nothing_taken}
use Rattle.asn_plan.proofs.leaves.build_leaf.Goals as goal

pub returns-clause-some : goal.returns-clause-some
returns-clause-some g c t good plan =
    let r = g.R.ReadLeaves.rules in
    let is : t ≡ null = plan.0 ∙ ap shape_of c.in-Null.is ∙ shape_of-Null in
    rw is (record { value = only_value null; of_value = c.in_ok-null.ensures (only_value null) refl refl; read = nothing_taken r false c.keep_nothing.ensures null (rw is at good) refl (r.to_units c.args.units.now) })
