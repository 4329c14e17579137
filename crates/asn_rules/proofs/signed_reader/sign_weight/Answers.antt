use Rattle.std.proofs.Common.{◌-◌, ◌*◌, ◌^◌, ◌≤◌, arith}
use Rattle.std.proofs.Math.Nat.{pow-le-pow_right}
use Rattle.asn_rules.proofs.Plain.SignedNumbers.{weight_within}
use Rattle.asn_rules.proofs.signed_reader.sign_weight.Goals as goal

pub returns-clause-few : goal.returns-clause-few
returns-clause-few c =
    let up : 2 ^ (8 * c.args.count - 1) ≤ 2 ^ 71 = pow-le-pow_right {n = 2} (omega arith) {i = 8 * c.args.count - 1} {j = 71} (omega (arith, c.requires.few)) in
    rw c.wide_power_of_two.ensures up

pub returns-clause-within : goal.returns-clause-within
returns-clause-within c h = rw c.wide_power_of_two.ensures (weight_within c.args.count c.requires.some h)
