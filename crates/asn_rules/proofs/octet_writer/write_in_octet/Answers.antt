use Rattle.std.proofs.lemmas.Result.{on_ok_weaker}
use Rattle.asn_sinks.proofs.Pushing.{pushed_same}
use Rattle.asn_rules.proofs.Octets.OctetsWritten.{in_octet}
use Rattle.asn_rules.proofs.octet_writer.write_in_octet.Goals as goal

pub returns : goal.returns
returns g c =
    let a = c.args in
    on_ok_weaker c.push_low_octets.result
    (pushed_same g.S.Sink.pushes a.sink.now c.push_low_octets.new.self (in_octet a.count a.n c.requires.few c.requires.some c.requires.fits))
    c.push_low_octets.ensures
