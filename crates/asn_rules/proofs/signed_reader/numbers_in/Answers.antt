use Rattle.std.proofs.Common.{◌-◌, ◌*◌, refl, arith}
use Rattle.asn_rules.proofs.Plain.SignedNumbers.{are_standing, inside_short}
use Rattle.asn_rules.proofs.signed_reader.numbers_in.Goals as goal

pub returns : goal.returns
returns c =
    are_standing c.args.set c.args.count c.requires.some (omega (arith, c.requires.few)) (inside_short c.args.set c.args.count c.requires.some c.requires.few) c.add_shifted-numbers.result c.add_shifted.result 0 c.sign_weight-weight.result (omega arith) c.sign_weight-weight.ensures.is
    (rw c.none.ensures at c.add_shifted-numbers.ensures.numbers) c.add_shifted.ensures.numbers refl
