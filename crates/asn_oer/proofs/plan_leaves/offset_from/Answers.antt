use Rattle.asn_oer.proofs.Plan.OctetsRead.{offset_held}
use Rattle.asn_oer.proofs.plan_leaves.offset_from.Goals as goal

pub returns : goal.returns
returns c = offset_held c.args.least c.args.octets c.args.count c.args.mask c.requires.few c.requires.mask c.requires.least c.requires.octets
