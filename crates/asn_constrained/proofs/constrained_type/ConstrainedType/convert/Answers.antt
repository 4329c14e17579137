use Rattle.asn_values.specs.Profile.{InProfile}
use Rattle.asn_values.specs.View.{shape_of}
use Rattle.asn_constraints.specs.View.{constraint_of}
use Rattle.asn_constrained.specs.Converted.{ConvertedUnder}
use Rattle.asn_constrained.proofs.Converting.{exact}
use Rattle.asn_constrained.proofs.constrained_type.ConstrainedType.convert.Goals as goal

pub returns-clause-exact : goal.returns-clause-exact
returns-clause-exact g c =
    let a = g.A.Rules.ruling in
    let b = g.B.Rules.ruling in
    let t = shape_of c.args.self.now.planned in
    let k = constraint_of c.args.self.now.constraint.value in
    let o = c.args.octets.now in
    let profile : InProfile t = rw c.ty.ensures at c.get-of_profile.ensures.of_profile in
    let told : ConvertedUnder a b k c.recode.result t o = rw (c.planned.ensures, c.constraint.ensures) at c.recode.ensures in
    λ p. exact a b t k o p c.recode.result c.keep_laws.ensures.laws c.keep_laws-2.ensures.laws profile told
