use Rattle.asn_bits.proofs.Above.{kept}
use Rattle.asn_sinks.proofs.measure.MeasureSink.push_least_signed_octets.Goals as goal

pub returns : goal.returns
returns c =
    let z = kept c.args.z c.requires.low c.requires.high in
    rw z at c.push_least_signed_octets.ensures
