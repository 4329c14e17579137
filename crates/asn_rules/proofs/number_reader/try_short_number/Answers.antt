use Rattle.std.proofs.Common.{◌≡◌, true, drop}
use Rattle.asn_bits.specs.Numbers.{bits}
use Rattle.asn_bits.proofs.Prefixes.{first_number}
use Rattle.asn_bits.proofs.Weights.{bits_are}
use Rattle.asn_rules.proofs.number_reader.try_short_number.Goals as goal

pub returns-then-admits-clause-some : goal.returns-then-admits-clause-some
returns-then-admits-clause-some c =
    record { number = bits c.args.k c.in_ok-n.n; spelt = record { digits = bits_are c.args.k c.in_ok-n.n c.in_ok-n.ensures.fits; member = c.admits.ensures.0 c.if-admits.true }; split = rw c.pass.ensures c.in_ok-n.ensures.some }

pub returns-clause-none : goal.returns-clause-none
returns-clause-none c e n rest s =
    let same : n ≡ c.in_ok-n.n = first_number c.args.k n c.in_ok-n.n (drop c.args.k c.args.bits.now) s c.in_ok-n.ensures.fits c.in_ok-n.ensures.some in
    let has : c.admits.result ≡ true = c.admits.ensures.1 (rw same at s.spelt.member) in
    absurd (cc)
