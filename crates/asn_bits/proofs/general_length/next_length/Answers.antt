-- Two octets that begin with 10 are the form and a count in 14 bits.
use Rattle.std.proofs.Common.{arith}
use Rattle.asn_bits.proofs.FirstLengths.{many_octets}
use Rattle.asn_bits.proofs.general_length.next_length.Goals as goal

pub returns-then-first-lt192-clause-some : goal.returns-then-first-lt192-clause-some
returns-then-first-lt192-clause-some c = ((omega arith, omega (arith, c.in_ok-second.ensures.fits)), many_octets c.in_ok-first.field-0 c.in_ok-second.field-0 (omega arith) (omega arith) (omega (arith, c.in_ok-second.ensures.fits)) c.in_ok-first.ensures.some c.in_ok-second.ensures.some)
