use Rattle.std.proofs.Common.{◌≡◌, ◌++◌, sym, ap, ◌∙◌, arith}
use Rattle.asn_bits.specs.Numbers.{bits}
use Rattle.asn_per.specs.Rules.{per_ruling}
use Rattle.asn_per.specs.Walk.{per_coding}
use Rattle.asn_per.proofs.Plan.OpenHere.{open_here}
use Rattle.asn_per.proofs.plan_leaves.PerPlanLeaves.enter_open.Goals as goal

pub returns-clause-some : goal.returns-clause-some
unfolding per_coding per_ruling
returns-clause-some c t d ws xs good h k =
    let n = c.in_ok-octets.octets in
    let vs = c.pass.new.self in
    let split : c.args.units.now ≡ bits 8 n ++ vs = c.in_ok-octets.ensures.some ∙ ap (λ l. bits 8 n ++ l) (sym c.pass.ensures) in
    open_here t d n c.args.units.now vs ws xs split (omega (arith, c.if-octets-eq0.false)) (omega (arith, c.if-octets-gt127.false)) h k
