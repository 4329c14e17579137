use Rattle.asn_plan.proofs.Placing.{absent_on}
use Rattle.asn_plan.proofs.place.Place.pass_absent.Goals as goal

pub returns : goal.returns
returns c q = absent_on c.args.self.now q
