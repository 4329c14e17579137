use Rattle.std.proofs.Common.{sym, ◌∙◌}
use Rattle.asn_bits.proofs.Splits.{two_pow_octets}
use Rattle.asn_rules.proofs.whole_number_reader.greatest_with.Goals as goal

pub returns : goal.returns
returns c = c.greatest_of_width.ensures ∙ sym (two_pow_octets c.args.count)
