use Rattle.std.proofs.Common.{length-append, arith}
use Rattle.asn_bits.specs.Numbers.{unpacked}
use Rattle.asn_bits.proofs.Splits.{length-unpacked}
use Rattle.asn_sinks.proofs.measure.MeasureSink.push_octets.Goals as goal

pub returns : goal.returns
returns c taken told =
    let os = c.args.octets.now in
    omega (arith, told, c.saturating_add-self.ensures, c.saturating_mul-bits.ensures, length-append taken (unpacked os), length-unpacked os)
