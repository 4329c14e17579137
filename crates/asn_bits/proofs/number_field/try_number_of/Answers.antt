-- The first k bits are those of one number.
use Rattle.std.proofs.Common.{◌≡◌, true}
use Rattle.asn_bits.specs.Numbers.{bits}
use Rattle.asn_bits.proofs.Weights.{bits_are}
use Rattle.asn_bits.proofs.Prefixes.{first_number}
use Rattle.asn_bits.proofs.number_field.try_number_of.Goals as goal

pub returns-then-has-clause-some : goal.returns-then-has-clause-some
returns-then-has-clause-some c =
    record { number = bits c.args.k c.in-Some.n; spelt = record { digits = bits_are c.args.k c.in-Some.n c.in-Some.ensures.fits; member = c.has.ensures.0 c.if-has.true }; split = c.in-Some.ensures.some }

pub returns-else-has-clause-none : goal.returns-else-has-clause-none
returns-else-has-clause-none c e n rest s =
    let same : n ≡ c.in-Some.n = first_number c.args.k n c.in-Some.n c.take_wide_number.new.units s c.in-Some.ensures.fits c.in-Some.ensures.some in
    let has : c.has.result ≡ true = c.has.ensures.1 (rw same at s.spelt.member) in
    absurd (cc)
