use Rattle.std.proofs.Common.{◌≡◌, ◌-◌, ◌<◌, ◌^◌, ◌++◌, ap, sym, arith}
use Rattle.std.proofs.Math.Nat.{one-le-pow}
use Rattle.asn_bits.specs.Numbers.{bits}
use Rattle.asn_bits.proofs.Weights.{bits_are}
use Rattle.asn_rules.proofs.Numbers.Sets.{first_spells}
use Rattle.asn_rules.proofs.octet_reader.read_from.Goals as goal

pub returns-then-k-eq0-clause-done : goal.returns-then-k-eq0-clause-done
returns-then-k-eq0-clause-done c R =
    let k = c.args.k in
    let fits : 0 < 2 ^ k = one-le-pow k 2 (omega arith) in
    let none : c.args.low ≡ 0 = (let z : 2 ^ k ≡ 1 = ap (λ i. 2 ^ i) c.if-k-eq0.true in omega (arith, c.requires.some, z)) in
    let split = ap (λ i. bits i 0 ++ c.args.units.now) (sym c.if-k-eq0.true) in
    first_spells R (record { number = bits k 0; spelt = record { digits = bits_are k 0 fits; member = (omega (arith, none), omega arith, tt) }; split = split })

pub returns-clause-done : goal.returns-clause-done
returns-clause-done c =
    let top : c.greatest_of_width.result ≡ 2 ^ c.args.k - 1 = omega (arith, c.greatest_of_width.ensures) in
    rw (c.numbers.ensures, top) at c.read_number.ensures.done

pub returns-clause-stop : goal.returns-clause-stop
returns-clause-stop c =
    let top : c.greatest_of_width.result ≡ 2 ^ c.args.k - 1 = omega (arith, c.greatest_of_width.ensures) in
    rw (c.numbers.ensures, top) at c.read_number.ensures.stop
