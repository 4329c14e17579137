use Rattle.std.proofs.Common.{sym, arith, ◌+◌}
use Rattle.std.proofs.lemmas.Result.{on_ok_weaker}
use Rattle.asn_sinks.proofs.Pushing.{pushed_same}
use Rattle.asn_rules.proofs.Octets.OctetsWritten.{short_length, joined_length}
use Rattle.asn_rules.proofs.octet_writer.write_length.Goals as goal

pub returns-then-length-lt-LONG : goal.returns-then-length-lt-LONG
returns-then-length-lt-LONG g c =
    on_ok_weaker c.push_low_octets.result (pushed_same g.S.Sink.pushes c.args.sink.now c.push_low_octets.new.self (sym (short_length c.args.length c.if-length-lt-LONG.true))) c.push_low_octets.ensures

pub returns-then-length : goal.returns-then-length
returns-then-length g c =
    let n = c.args.length in
    on_ok_weaker c.push_low_octets-then-length.result
    (pushed_same g.S.Sink.pushes c.args.sink.now c.push_low_octets-then-length.new.self
    (joined_length n 1 (33024 + n) (omega arith) (omega arith) (omega arith) (omega arith) (omega arith) (omega arith)))
    c.push_low_octets-then-length.ensures

pub returns-then-length-2 : goal.returns-then-length-2
returns-then-length-2 g c =
    let n = c.args.length in
    on_ok_weaker c.push_low_octets-then-length-2.result
    (pushed_same g.S.Sink.pushes c.args.sink.now c.push_low_octets-then-length-2.new.self
    (joined_length n 2 (8519680 + n) (omega arith) (omega arith) (omega arith) (omega arith) (omega arith) (omega arith)))
    c.push_low_octets-then-length-2.ensures
