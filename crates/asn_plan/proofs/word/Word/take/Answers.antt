use Rattle.std.proofs.Common.{◌≤◌, ◌-◌, ◌/◌, ◌^◌, bit_and, arith, ap, ◌∙◌}
use Rattle.std.proofs.lemmas.Nat.{and_mask, one_shl}
use Rattle.asn_plan.proofs.WordsTaken.{taken_first}
use Rattle.asn_plan.proofs.word.Word.take.Goals as goal

pub returns-clause-some : goal.returns-clause-some
returns-clause-some c =
    let w = c.args.self.now in
    let k = c.args.count in
    let after = w.left - k in
    let q = w.bits / 2 ^ after in
    let few : k ≤ w.left = omega (arith, c.if-count-self.false) in
    taken_first w.bits w.left after k _ (omega (arith, few)) (ap (λ t. bit_and q (t - 1)) (one_shl k 64 (omega (arith, few, w.few))) ∙ and_mask q k)
