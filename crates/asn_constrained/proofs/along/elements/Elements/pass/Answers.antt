use Rattle.std.proofs.Common.{refl}
use Rattle.asn_constrained.proofs.Passing.{element_passed}
use Rattle.asn_constrained.proofs.along.elements.Elements.pass.Goals as goal

pub returns : goal.returns
returns c = λ t s m ds d h met. element_passed s m c.args.self.now _ ds d refl refl c.in_ok-self.ensures.1 h met
