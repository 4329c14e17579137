use Rattle.std.proofs.Common.{refl}
use Rattle.asn_bits.proofs.Prefixes.{first_bits, in_bits}
use Rattle.asn_rules.proofs.Numbers.Sets.{first_spells}
use Rattle.asn_rules.proofs.number_reader.read_number_among.Goals as goal

pub read_slowly-requires-clause-many : goal.read_slowly-requires-clause-many
read_slowly-requires-clause-many c = first_bits c.args.k c.requires.some (c.in-None.ensures.none refl)

pub returns-in-Some-clause-done : goal.returns-in-Some-clause-done
returns-in-Some-clause-done c R = first_spells R c.in-Some.ensures.some

pub returns-in-Some-clause-fits : goal.returns-in-Some-clause-fits
returns-in-Some-clause-fits c = in_bits c.args.k c.in-Some.n c.in-Some.ensures.some.number c.in-Some.ensures.some.spelt
