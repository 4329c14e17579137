-- What a session answers where contents are judged too: by what a session of the type under its constraint answers.
use Rattle.std.specs.Prelude.{◌≡◌, ℕ, Some, Result, Ok, Err, List, ⊤}
use Rattle.asn_values.specs.Shape.{Shape}
use Rattle.asn_values.specs.View.{datum_of}
use Rattle.asn_rules.specs.Answer.{Ruling}
use Rattle.asn_rules.specs.declared.session.Step.{Step}
use Rattle.asn_rules.specs.declared.session.Step.TheVariants as step
use Rattle.asn_constraints.specs.Constraints.{Constraint}
use Rattle.asn_constrained.specs.declared.fault.ConstrainedFeedFault.{ConstrainedFeedFault}
use Rattle.asn_constrained.specs.Sessions.{PastUnder, FeedsUnder}
use Rattle.asn_contents.specs.Contents.{Contents}
use Rattle.asn_containing.specs.declared.fault.ContainingFeedFault.{ContainingFeedFault}
use Rattle.asn_containing.specs.declared.fault.ContainingFeedFault.TheVariants as feed
use Rattle.asn_containing.specs.Containing.{TableType, MeetWithin}
use Rattle.asn_containing.specs.Judged.{most_levels, Judged}

-- Of a value: the value, if its contents are right; which are not; or that memory was missing. Else the same answer.
abbrev pub AnswersJudged : Ruling → List TableType → Contents → Result Step ConstrainedFeedFault → Result Step ContainingFeedFault → Type 0
AnswersJudged r T c (Ok (step.Done v n)) (Ok answer) = (answer ≡ step.Done v n) × MeetWithin r T most_levels c (datum_of v)
AnswersJudged r T c (Ok (step.Done v n)) (Err (feed.Contents used b)) = (used ≡ n) × Judged r T c (datum_of v) (Some b)
AnswersJudged r T c (Ok (step.Done v n)) (Err feed.Memory) = ⊤
AnswersJudged r T c (Ok (step.Done v n)) (Err (feed.Type fault)) = ⊥
AnswersJudged r T c (Ok step.More) answer = answer ≡ Ok step.More
AnswersJudged r T c (Err fault) answer = answer ≡ Err (feed.Type fault)

-- what the session inside answers to the piece, with its past then, and what is answered of that
abbrev pub FeedsJudged : {Q : Type 0} → Ruling → (Q → Shape → Constraint → PastUnder → Type 0) → Q → Q → List ℕ
    → List TableType → Contents → Result Step ContainingFeedFault → Type 0
FeedsJudged r took old new piece T c answer =
    (inner : Result Step ConstrainedFeedFault) × FeedsUnder r took old new piece inner × AnswersJudged r T c inner answer
