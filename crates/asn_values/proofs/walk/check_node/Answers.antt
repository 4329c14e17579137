use Rattle.std.proofs.lemmas.Result.{IfOk-weaker}
use Rattle.asn_values.proofs.Views.{sequence_of_fields, choice_of_alternatives}
use Rattle.asn_values.proofs.walk.check_node.Goals as goal

pub returns-in-Seq-clause-faultless : goal.returns-in-Seq-clause-faultless
returns-in-Seq-clause-faultless c =
    rw (sequence_of_fields c.args.ty.now c.in-Seq.root c.in-Seq.ext c.deref-in-Seq.result.now c.in-Seq.is c.deref-in-Seq.ensures.value)
    (IfOk-weaker c.check_sequence.result _ _ (λ done h deep. h) c.check_sequence.ensures.faultless)

pub returns-in-Choice-clause-faultless : goal.returns-in-Choice-clause-faultless
returns-in-Choice-clause-faultless c =
    rw (choice_of_alternatives c.args.ty.now c.in-Choice.root c.in-Choice.ext c.deref-in-Choice.result.now c.in-Choice.is c.deref-in-Choice.ensures.value)
    (IfOk-weaker c.check_choice.result _ _ (λ done h deep. h) c.check_choice.ensures.faultless)
