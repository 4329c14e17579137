use Rattle.std.proofs.Common.{◌*◌, arith}
use Rattle.std.proofs.lemmas.Nat.{pow_pos}
use Rattle.asn_bits.proofs.Splits.{two_pow_octets}
use Rattle.asn_rules.proofs.whole_number_reader.wide_greatest_with.Goals as goal

pub overflow_sub-result : goal.overflow_sub-result
overflow_sub-result c = omega (arith, c.wide_power_of_two.ensures, pow_pos (8 * c.args.count))

pub returns : goal.returns
returns c = omega (arith, c.wide_power_of_two.ensures, pow_pos (8 * c.args.count), two_pow_octets c.args.count)
