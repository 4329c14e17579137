use Rattle.asn_plan.proofs.Placing.{passed_on}
use Rattle.asn_plan.proofs.place.Place.pass.Goals as goal

pub returns : goal.returns
returns c s d q = passed_on s c.args.self.now d q
