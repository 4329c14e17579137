use Rattle.std.proofs.Common.{arith}
use Rattle.asn_bits.proofs.Splits.{length-unpacked}
use Rattle.asn_per.specs.Rules.{per_ruling}
use Rattle.asn_per.proofs.rules.PerReads.units_of.Goals as goal

pub returns : goal.returns
unfolding per_ruling
returns c o e = omega (arith, length-unpacked o, e)
