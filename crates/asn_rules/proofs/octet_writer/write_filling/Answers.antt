use Rattle.std.proofs.lemmas.Result.{on_ok_weaker}
use Rattle.asn_sinks.proofs.Pushing.{pushed_same}
use Rattle.asn_rules.proofs.Octets.OctetsWritten.{filling_bits}
use Rattle.asn_rules.proofs.octet_writer.write_filling.Goals as goal

pub returns : goal.returns
returns g c =
    on_ok_weaker c.push_number.result
    (pushed_same g.S.Sink.pushes c.args.sink.now c.push_number.new.self (filling_bits c.args.count c.unused_bits.result c.unused_bits.ensures))
    c.push_number.ensures
