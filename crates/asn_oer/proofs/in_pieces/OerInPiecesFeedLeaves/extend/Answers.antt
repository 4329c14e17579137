use Rattle.asn_oer.specs.Walk.{oer_coding}
use Rattle.asn_oer.proofs.InPieces.Units.{extends}
use Rattle.asn_oer.proofs.in_pieces.OerInPiecesFeedLeaves.extend.Goals as goal

pub returns-clause-extended : goal.returns-clause-extended
unfolding oer_coding
returns-clause-extended c =
    (extends c.args.begun.now c.extend.new.self c.args.units.now c.extend.result c.requires.begun c.requires.at_unit c.extend.ensures.count c.extend.ensures.bits).1
