use Rattle.asn_values.specs.View.{shape_of}
use Rattle.asn_convert.proofs.Converting.{exact}
use Rattle.asn_convert.proofs.conversion.convert.Goals as goal

pub returns-clause-exact : goal.returns-clause-exact
returns-clause-exact g c = λ p. exact g.A.Rules.ruling g.B.Rules.ruling (shape_of c.args.ty.now) c.args.octets.now p _ c.keep_laws.ensures.laws c.keep_laws-2.ensures.laws c.get-of_profile.ensures.of_profile c.recode.ensures
