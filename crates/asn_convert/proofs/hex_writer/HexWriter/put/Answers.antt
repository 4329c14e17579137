use Rattle.std.proofs.Common.{◌∙◌}
use Rattle.asn_convert.proofs.HexDigits.{piece_known}
use Rattle.asn_convert.proofs.hex_writer.HexWriter.put.Goals as goal

pub returns-then-taken-count-clause-written : goal.returns-then-taken-count-clause-written
returns-then-taken-count-clause-written g c =
    let e = c.put_block-taken.ensures in
    let before = c.loop-done.invariant in
    (piece_known _ _ _ c.loop-done.done _ c.put_block-taken.result c.args.octets.now e.few before.0 before.1 e.written).1

pub loop-done-preserved : goal.loop-done-preserved
loop-done-preserved g c =
    let e = c.put_block-taken.ensures in
    let before = c.loop-done.invariant in
    let piece = piece_known _ _ _ c.loop-done.done _ c.put_block-taken.result c.args.octets.now e.few before.0 before.1 e.written in
    (piece.0, piece.1, e.faults ∙ before.2, e.name ∙ before.3)
