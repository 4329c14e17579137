use Rattle.asn_convert.proofs.DigitPairs.{ReadUpTo}
use Rattle.asn_convert.proofs.digits.are_octets_of.Given as goal

-- the pairs in front are read
abbrev pub invariant-pairs : goal.invariant-pairs
invariant-pairs l = ReadUpTo l.line l.octets l.all_digits l.index
