use Rattle.std.proofs.Common.{◌*◌, drop, refl}
use Rattle.asn_oer.specs.Walk.{oer_coding}
use Rattle.asn_oer.proofs.InPieces.Units.{passes}
use Rattle.asn_oer.proofs.in_pieces.OerInPiecesFeedLeaves.pass_units.Goals as goal

pub pass_octets-requires : goal.pass_octets-requires
unfolding oer_coding
pass_octets-requires c =
    (passes c.args.units.now (drop (8 * c.args.count) c.args.units.now) c.args.count c.requires.at_unit c.requires.there refl).0

pub returns-clause-passed : goal.returns-clause-passed
unfolding oer_coding
returns-clause-passed c =
    (passes c.args.units.now c.pass_octets.new.self c.args.count c.requires.at_unit c.requires.there c.pass_octets.ensures).2
