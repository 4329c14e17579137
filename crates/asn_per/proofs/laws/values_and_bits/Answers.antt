use Rattle.asn_rules.proofs.Law.SomeValue.{a_value}
use Rattle.asn_per.proofs.Encodings.Whole.{bits_exact}
use Rattle.asn_per.proofs.laws.values_and_bits.Goals as goal

pub returns-clause-a_value : goal.returns-clause-a_value
returns-clause-a_value c = a_value

pub returns-clause-no_bits : goal.returns-clause-no_bits
returns-clause-no_bits c = bits_exact
