-- What is answered to no octets tells whether they are an encoding.
use Rattle.std.proofs.Common.{ℕ, false, Ok, Err, [], arith}
use Rattle.asn_values.specs.Shape.{Shape}
use Rattle.asn_rules.specs.Answer.{Ruling, NoFront}
use Rattle.asn_rules.specs.AtOnce.{FedAtOnce, TellsIfNone}
use Rattle.asn_rules.specs.declared.fault.Why.{Why}
use Rattle.asn_rules.specs.declared.session.Step.TheVariants as step
use Rattle.asn_rules.specs.declared.session.FeedFault.TheVariants as feed

-- no front of them is one
none_of : (r : Ruling) (t : Shape) → NoFront r t [] → TellsIfNone r t false
none_of r t h v e = h v 0 (omega arith) e

-- more is wanted
pub more_told : (r : Ruling) (t : Shape) → FedAtOnce r t [] (Ok step.More) → TellsIfNone r t false
more_told r t h = none_of r t h.0

-- they are refused
pub refused_told : (r : Ruling) (t : Shape) (at : ℕ) (why : Why) → FedAtOnce r t [] (Err (feed.Refused at why)) → TellsIfNone r t false
refused_told r t at why h = none_of r t h.0
