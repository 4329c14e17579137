use Rattle.tulvorn_c.specs.Held.{constrained_of}
use Rattle.asn_constrained.proofs.Converting.{exact}
use Rattle.tulvorn_c.proofs.conversions.converted.Goals as goal

pub returns-clause-exact : goal.returns-clause-exact
returns-clause-exact g c =
    let t = constrained_of c.args.ty.now in
    λ p. exact g.A.Rules.ruling g.B.Rules.ruling t.shape t.constraint c.args.octets.now p c.recode.result
    c.keep_laws.ensures.laws c.keep_laws-2.ensures.laws c.get-of_profile.ensures.of_profile c.recode.ensures
