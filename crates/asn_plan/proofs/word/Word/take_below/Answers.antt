use Rattle.std.proofs.Common.{◌≡◌, ◌≤◌, ◌-◌, ◌/◌, ◌^◌, bit_and, arith, ap, ◌∙◌}
use Rattle.std.proofs.lemmas.Nat.{and_mask}
use Rattle.asn_plan.proofs.WordsTaken.{taken_first}
use Rattle.asn_plan.proofs.word.Word.take_below.Goals as goal

pub returns-clause-some : goal.returns-clause-some
returns-clause-some c =
    let w = c.args.self.now in
    let k = c.args.count in
    let after = w.left - k in
    let q = w.bits / 2 ^ after in
    let few : k ≤ w.left = omega (arith, c.if-count-self.false) in
    let mask : c.args.mask ≡ 2 ^ k - 1 = omega (arith, c.requires.mask) in
    taken_first w.bits w.left after k _ (omega (arith, few)) (ap (bit_and q) mask ∙ and_mask q k)
