use Rattle.std.proofs.Common.{◌-◌, length, length-drop, refl, ap, arith}
use Rattle.asn_per.specs.Rules.{per_ruling}
use Rattle.asn_per.specs.Walk.{per_coding}
use Rattle.asn_per.proofs.InPieces.Units.{passes}
use Rattle.asn_per.proofs.feed_leaves.PerInPiecesFeedLeaves.pass_units.Goals as goal

pub returns-then-count-le64-clause-passed : goal.returns-then-count-le64-clause-passed
unfolding per_coding per_ruling
returns-then-count-le64-clause-passed c =
    passes c.args.units.now c.pass.new.self c.pass.new.self c.args.count 0 c.args.count (omega arith) c.requires.there c.pass.ensures refl

pub pass-requires-3-clause-there : goal.pass-requires-3-clause-there
unfolding per_coding per_ruling
pass-requires-3-clause-there c = omega (arith, ap length c.pass-2.ensures, length-drop 64 c.args.units.now, c.requires.there)

pub returns-clause-passed : goal.returns-clause-passed
unfolding per_coding per_ruling
returns-clause-passed c =
    passes c.args.units.now c.pass-2.new.self c.pass-3.new.self 64 (c.args.count - 64) c.args.count (omega (arith, c.if-count-le64.false)) c.requires.there c.pass-2.ensures c.pass-3.ensures
