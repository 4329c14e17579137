-- Where the numbers have 64 bits at most, they are read as such.
use Rattle.std.proofs.Common.{arith}
use Rattle.asn_rules.proofs.Plain.WideNumbers.{narrow_one}
use Rattle.asn_rules.proofs.whole_number_reader.read_wide_constrained.Goals as goal

pub narrow-requires : goal.narrow-requires
narrow-requires c = narrow_one c.args.excluded c.args.high c.requires.within c.if-high-lt-WORD.true

pub read_constrained-requires : goal.read_constrained-requires
read_constrained-requires c = rw c.narrow.ensures c.requires.some

pub returns-in-Ok-clause-done : goal.returns-in-Ok-clause-done
returns-in-Ok-clause-done c R = rw c.from.ensures (rw c.narrow.ensures at (c.in-Ok.ensures.done R))

pub returns-in-Ok-clause-member : goal.returns-in-Ok-clause-member
returns-in-Ok-clause-member c = rw c.from.ensures (rw c.narrow.ensures at c.in-Ok.ensures.member)

pub returns-in-Err-clause-stop : goal.returns-in-Err-clause-stop
returns-in-Err-clause-stop c R = rw c.narrow.ensures at (c.in-Err.ensures.stop R)

pub read_wide_number-requires-clause-few : goal.read_wide_number-requires-clause-few
read_wide_number-requires-clause-few c = c.width.ensures.wide (omega (arith, c.requires.few))

pub read_wide_number-requires-clause-some : goal.read_wide_number-requires-clause-some
read_wide_number-requires-clause-some c = rw c.width.ensures.width c.requires.some

pub returns-clause-done : goal.returns-clause-done
returns-clause-done c R = rw c.width.ensures.width at (c.read_wide_number.ensures.done R)

pub returns-clause-stop : goal.returns-clause-stop
returns-clause-stop c R = rw c.width.ensures.width at (c.read_wide_number.ensures.stop R)
