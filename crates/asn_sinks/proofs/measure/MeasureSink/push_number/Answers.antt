use Rattle.std.proofs.Common.{length-append, arith}
use Rattle.asn_bits.specs.Numbers.{bits}
use Rattle.asn_bits.proofs.Octets.{length-digits}
use Rattle.asn_sinks.proofs.measure.MeasureSink.push_number.Goals as goal

pub returns : goal.returns
returns c taken told =
    omega (arith, told, c.saturating_add-self.ensures, length-append taken (bits c.args.k c.args.n), length-digits 2 c.args.k c.args.n)
