use Rattle.asn_rules.specs.Faults.{state_of}
use Rattle.asn_convert.specs.Answers.{rulings}
use Rattle.asn_convert.specs.Text.{Text, Begun}
use Rattle.asn_convert.proofs.Told.{text_begun, flush_fails, flush_rose}
use Rattle.asn_convert.proofs.running.write_text.Goals as goal

pub returns-in-Err-clause-fault : goal.returns-in-Err-clause-fault
returns-in-Err-clause-fault g c =
    let w = rulings g.A.Rules.ruling g.B.Rules.ruling g.A.OtherVersions.loose in
    flush_fails (λ out. Text w c.args.job.now c.args.input.now out c.in_ok-status.status) (λ out. Begun w c.args.job.now c.args.input.now out)
    (state_of g.W.Write.contents c.args.output.now) (state_of g.W.Write.contents c.answer_input.new.output) (state_of g.W.Write.contents c.flush.new.self)
    (λ out h. text_begun w c.args.job.now c.args.input.now out c.in_ok-status.status h) c.in_ok-status.ensures.text c.in-Err.ensures.bytes (flush_rose _ _ c.in-Err.ensures.faults)
