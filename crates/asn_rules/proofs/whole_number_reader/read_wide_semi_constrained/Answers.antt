-- Where the numbers have 64 bits at most, they are read as such.
use Rattle.std.proofs.Common.{arith}
use Rattle.asn_rules.proofs.Plain.WideNumbers.{narrow_one, narrow_meets}
use Rattle.asn_rules.proofs.whole_number_reader.read_wide_semi_constrained.Goals as goal

pub narrow-requires : goal.narrow-requires
narrow-requires c = narrow_one c.args.excluded c.args.high c.requires.within c.if-high-lt-WORD.true

pub read_semi_constrained-requires : goal.read_semi_constrained-requires
read_semi_constrained-requires c = rw c.narrow.ensures (narrow_meets c.args.high c.args.excluded c.if-high-lt-WORD.true c.requires.some)

pub returns-in-Ok-clause-done : goal.returns-in-Ok-clause-done
returns-in-Ok-clause-done c R = rw c.from.ensures (rw c.narrow.ensures at (c.in-Ok.ensures.done R))

pub returns-in-Ok-clause-member : goal.returns-in-Ok-clause-member
returns-in-Ok-clause-member c = rw c.from.ensures (rw c.narrow.ensures at c.in-Ok.ensures.member)

pub returns-in-Err-clause-stop : goal.returns-in-Err-clause-stop
returns-in-Err-clause-stop c R = rw c.narrow.ensures at (c.in-Err.ensures.stop R)
