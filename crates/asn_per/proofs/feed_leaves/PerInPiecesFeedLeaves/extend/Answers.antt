use Rattle.asn_per.proofs.InPieces.Units.{extends}
use Rattle.asn_per.proofs.feed_leaves.PerInPiecesFeedLeaves.extend.Goals as goal

pub returns-clause-extended : goal.returns-clause-extended
returns-clause-extended c = extends c.args.begun.now c.extend.new.self c.args.units.now c.extend.result c.extend.ensures.count c.extend.ensures.bits
