use Rattle.asn_values.specs.View.{shape_of}
use Rattle.asn_rules.specs.Faults.{state_of}
use Rattle.asn_convert.specs.Answers.{rulings}
use Rattle.asn_convert.specs.Text.{terms}
use Rattle.asn_convert.proofs.Streaming.{HasCome}
use Rattle.asn_convert.proofs.coming.answer_stream.Given as goal

-- of what was read, what is held is not answered yet
abbrev pub invariant-loop : goal.invariant-loop
invariant-loop g l =
    HasCome (terms (rulings g.A.Rules.ruling g.B.Rules.ruling g.A.OtherVersions.loose) l.rules l.order (shape_of l.ty)) (state_of g.R.Read.remaining l.initial.input) (state_of g.R.Read.remaining l.input) l.held.items l.all_good
    (state_of g.W.Write.contents l.initial.output) (state_of g.W.Write.contents l.output)
