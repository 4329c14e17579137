use Rattle.std.proofs.Common.{◌-◌, sym, ◌∙◌, arith}
use Rattle.asn_bits.proofs.Splits.{two_pow_octets}
use Rattle.asn_rules.proofs.Plain.CountedNumbers.{least_more}
use Rattle.asn_rules.proofs.whole_number_reader.wide_least_with.Goals as goal

pub returns-else-count-le1 : goal.returns-else-count-le1
returns-else-count-le1 c = c.wide_power_of_two.ensures ∙ sym (two_pow_octets (c.args.count - 1)) ∙ sym (least_more c.args.count (omega arith))
