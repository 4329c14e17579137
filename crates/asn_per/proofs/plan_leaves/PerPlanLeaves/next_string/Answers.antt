use Rattle.std.proofs.Common.{arith}
use Rattle.asn_per.specs.Rules.{per_ruling}
use Rattle.asn_per.specs.Walk.{per_coding}
use Rattle.asn_plan.specs.Words.{before}
use Rattle.asn_per.proofs.Plan.StringsRead.{fixed_first}
use Rattle.asn_per.proofs.Plan.WordsRead.{bits_taken}
use Rattle.asn_per.proofs.plan_leaves.PerPlanLeaves.next_string.Goals as goal

pub returns : goal.returns
unfolding per_coding per_ruling
returns c t good is =
    let q = fixed_first c.args.fixed.now t c.in_ok-number.number good is (omega (arith, c.if-number-fixed.false)) in
    record { value = q.value; is = q.is; read = λ us. q.read (before per_coding c.args.word.now us) (before per_coding c.take.new.self us) (bits_taken c.args.word.now c.take.new.self c.args.fixed.now.bits c.in_ok-number.number us c.in_ok-number.ensures.some) }
