-- Of no bits the number is 0.
use Rattle.std.proofs.Common.{◌<◌, ◌^◌, ◌++◌, ap, sym, arith}
use Rattle.std.proofs.Math.Nat.{one-le-pow}
use Rattle.asn_bits.specs.Numbers.{bits}
use Rattle.asn_bits.proofs.Weights.{bits_are}
use Rattle.asn_rules.proofs.Numbers.Sets.{first_spells}
use Rattle.asn_rules.proofs.number_reader.read_up_to.Goals as goal

pub returns-then-k-eq0-clause-done : goal.returns-then-k-eq0-clause-done
returns-then-k-eq0-clause-done c R =
    let k = c.args.k in
    let fits : 0 < 2 ^ k = one-le-pow k 2 (omega arith) in
    let split = ap (λ i. bits i 0 ++ c.args.bits.now) (sym c.if-k-eq0.true) in
    first_spells R (record { number = bits k 0; spelt = record { digits = bits_are k 0 fits; member = (omega arith, omega arith, tt) }; split = split })
