use Rattle.std.proofs.Common.{inl, inr, arith}
use Rattle.asn_bits.proofs.LengthsInOctets.{no_first}
use Rattle.asn_bits.proofs.octet_lengths.first_octet.Goals as goal

pub returns-then-count-eq0-clause-none : goal.returns-then-count-eq0-clause-none
returns-then-count-eq0-clause-none c e n few s = no_first c.args.octet n (omega arith) (inl (omega arith)) few s

pub returns-then-count-gt4-clause-none : goal.returns-then-count-gt4-clause-none
returns-then-count-gt4-clause-none c e n few s = no_first c.args.octet n (omega arith) (inr (omega arith)) few s
