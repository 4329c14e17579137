use Rattle.std.proofs.Common.{◌≡◌, ◌++◌, length, sym, ap, ◌∙◌, arith}
use Rattle.asn_bits.specs.Numbers.{bits}
use Rattle.asn_bits.proofs.Prefixes.{given_length}
use Rattle.asn_per.specs.Per.{filling}
use Rattle.asn_per.specs.Rules.{per_ruling}
use Rattle.asn_per.specs.Walk.{per_coding}
use Rattle.asn_per.proofs.plan_leaves.PerPlanLeaves.leave_open.Goals as goal

pub returns-clause-some : goal.returns-clause-some
unfolding per_coding per_ruling
returns-clause-some c same =
    let k = c.zeros_after-zeros.result in
    let count : length (filling c.args.taken) ≡ k = ap length c.zeros_after-zeros.ensures.filled ∙ given_length k 0 in
    let zero : c.in-Some-eq0.field-0 ≡ 0 = omega (arith, c.in-Some-eq0.field-0-test) in
    let split : c.args.units.now ≡ filling c.args.taken ++ c.pass.new.self = c.in-Some-eq0.ensures.some ∙ ap (λ l. bits k c.in-Some-eq0.field-0 ++ l) (sym c.pass.ensures) ∙ ap (λ n. bits k n ++ c.pass.new.self) zero ∙ ap (λ l. l ++ c.pass.new.self) (sym c.zeros_after-zeros.ensures.filled) in
    record { all = omega (arith, count, c.if-all-taken.false, c.if-taken-all.false, c.from-all.ensures, c.from.ensures); split = split }
