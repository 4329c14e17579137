use Rattle.std.proofs.Common.{arith}
use Rattle.asn_convert.proofs.DigitPairs.{read_starts, read_further, read_whole, read_none}
use Rattle.asn_convert.proofs.digits.are_octets_of.Goals as goal

pub pairs-init : goal.pairs-init
pairs-init c = read_starts _ _

pub pairs-preserved : goal.pairs-preserved
pairs-preserved c =
    read_further _ _ c.pairs.index _ _ _ (omega arith) (omega arith) c.pairs.invariant c.octet_of-are_digits.ensures.yes c.octet_of-are_digits.ensures.no

pub returns-clause-yes : goal.returns-clause-yes
returns-clause-yes c = read_whole _ _ _ c.pairs.index (omega arith) (omega arith) c.pairs.invariant

pub returns-clause-no : goal.returns-clause-no
returns-clause-no c = read_none _ _ _ c.pairs.index (omega arith) c.pairs.invariant
