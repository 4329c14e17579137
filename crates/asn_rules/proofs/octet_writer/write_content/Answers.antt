use Rattle.std.proofs.Common.{length, sym}
use Rattle.std.proofs.lemmas.Result.{on_ok_weaker}
use Rattle.asn_bits.specs.Lengths.{octet_length}
use Rattle.asn_bits.specs.Numbers.{unpacked}
use Rattle.asn_sinks.proofs.Pushing.{pushed_same}
use Rattle.asn_rules.proofs.Octets.OctetsWritten.{content}
use Rattle.asn_rules.proofs.octet_writer.write_content.Goals as goal

pub returns : goal.returns
returns g c =
    let os = c.args.octets.now in
    let old = c.args.sink.now in
    let new = c.push_row.new.self in
    on_ok_weaker c.push_row.result
    (λ e. pushed_same g.S.Sink.pushes old new (sym (content os))
    (g.met.S.Sink.pushes_joined old c.write_length.new.sink new (unpacked (octet_length (length os))) (unpacked os) c.in_ok-write_length.ensures e))
    c.push_row.ensures
