-- What a session answers under a constraint to octets that come in pieces.
use Rattle.std.specs.Prelude.{◌≡◌, ◌+◌, ℕ, false, Result, Ok, Err, List, ◌++◌, length, take, ⊤}
use Rattle.asn_values.specs.Datum.{Datum}
use Rattle.asn_values.specs.Shape.{Shape}
use Rattle.asn_values.specs.View.{datum_of}
use Rattle.asn_rules.specs.declared.session.Step.{Step}
use Rattle.asn_rules.specs.declared.session.Step.TheVariants as step
use Rattle.asn_rules.specs.declared.session.FeedFault.{FeedFault}
use Rattle.asn_rules.specs.declared.session.FeedFault.TheVariants as feed
use Rattle.asn_rules.specs.Answer.{Ruling, IsEncoding, done, more}
use Rattle.asn_rules.specs.Sessions.{Past, all_so_far, Fed, Finished}
use Rattle.asn_rules.specs.Sessions as inner
use Rattle.asn_constraints.specs.Constraints.{Constraint, meets}
use Rattle.asn_constrained.specs.declared.fault.ConstrainedFeedFault.{ConstrainedFeedFault}
use Rattle.asn_constrained.specs.declared.fault.ConstrainedFeedFault.TheVariants as under
use Rattle.asn_constrained.specs.declared.fault.FinishFault.{FinishFault}
use Rattle.asn_constrained.specs.declared.fault.FinishFault.TheVariants as finish
use Rattle.asn_constrained.specs.declared.session.End.{End}
use Rattle.asn_constrained.specs.declared.session.End.TheVariants as end
use Rattle.asn_constrained.specs.Under.{IsEncodingUnder, AnswerUnder, ReportsBroken}

-- ---- what a session has taken

-- The octets that it took, and how it goes on. It answers by all octets so far; it answers this fault to every piece.
-- It answered a value whose encoding these octets are, or that such a value breaks the constraint, or memory was
-- wanting: it answers Spent to every piece.
pub data PastUnder : Type 0 where
  waiting : List ℕ → PastUnder
  stopped : List ℕ → FeedFault → PastUnder
  met : List ℕ → PastUnder
  broken : List ℕ → PastUnder
  spent : PastUnder

abbrev pub end_of : PastUnder → End
end_of (waiting s) = end.Going
end_of (stopped s fault) = end.Going
end_of (met s) = end.Met
end_of (broken s) = end.Broken
end_of spent = end.Spent

-- the session of the type alone that is inside has this past
abbrev pub TookInside : {Q : Type 0} → (Q → Shape → Past → Type 0) → Q → Shape → PastUnder → Type 0
TookInside took q t (waiting s) = took q t (inner.waiting s)
TookInside took q t (stopped s fault) = took q t (inner.stopped s fault)
TookInside took q t (met s) = took q t (inner.over s)
TookInside took q t (broken s) = took q t (inner.over s)
TookInside took q t spent = (s : List ℕ) × took q t (inner.over s)

-- a fault that is answered again to every piece
abbrev pub IsLasting : FeedFault → Type 0
IsLasting (feed.Refused at why) = ⊤
IsLasting feed.TooLong = ⊤
IsLasting feed.Memory = ⊥
IsLasting feed.Spent = ⊥

-- what is known of the fault, or of the octets of a value
abbrev pub KnownOf : Ruling → Shape → Constraint → PastUnder → Type 0
KnownOf r t c (met s) = (v : Datum) × IsEncodingUnder r t c v s
KnownOf r t c (broken s) = (v : Datum) × IsEncoding r t v s × (meets c v ≡ false)
KnownOf r t c (stopped s fault) = IsLasting fault
KnownOf r t c past = ⊤

-- a session of the type and the constraint has this past: q is inside, and it holds the constraint and its end
pub record TookUnder {Q : Type 0} (r : Ruling) (took : Q → Shape → Past → Type 0) (q : Q) (held : Constraint) (e : End)
    (t : Shape) (c : Constraint) (past : PastUnder) : Type 0 where
  pub inside : TookInside took q t past
  pub same : held ≡ c
  pub ends : e ≡ end_of past
  pub known : KnownOf r t c past

-- ---- feed

-- what is answered to the next piece: as without the constraint, but that a value meets it; or that the octets so far
-- begin with the encoding of a value that breaks it, which ends after the first `used` octets of the piece
abbrev pub FedUnder : Ruling → Shape → Constraint → PastUnder → List ℕ → Result Step ConstrainedFeedFault → Type 0
FedUnder r t c (waiting s) piece (Ok (step.Done value used)) =
    AnswerUnder r t c (all_so_far s piece) (done (datum_of value) (length s + used))
FedUnder r t c (waiting s) piece (Ok step.More) = AnswerUnder r t c (all_so_far s piece) more
FedUnder r t c (waiting s) piece (Err (under.Broken used b)) =
    ReportsBroken r t c (all_so_far s piece) (length s + used) b
FedUnder r t c (waiting s) piece (Err (under.Type fault)) = Fed r t (inner.waiting s) piece (Err fault)
FedUnder r t c (stopped s fault) piece answer = answer ≡ Err (under.Type fault)
FedUnder r t c (met s) piece answer = answer ≡ Err (under.Type feed.Spent)
FedUnder r t c (broken s) piece answer = answer ≡ Err (under.Type feed.Spent)
FedUnder r t c spent piece answer = answer ≡ Err (under.Type feed.Spent)

-- and the past after that answer
abbrev pub after : PastUnder → List ℕ → Result Step ConstrainedFeedFault → PastUnder
after (waiting s) piece (Ok (step.Done value used)) = met (take (length s + used) (s ++ piece))
after (waiting s) piece (Ok step.More) = waiting (all_so_far s piece)
after (waiting s) piece (Err (under.Broken used b)) = broken (take (length s + used) (s ++ piece))
after (waiting s) piece (Err (under.Type (feed.Refused at why))) = stopped (all_so_far s piece) (feed.Refused at why)
after (waiting s) piece (Err (under.Type feed.TooLong)) = stopped (all_so_far s piece) feed.TooLong
after (waiting s) piece (Err (under.Type feed.Memory)) = spent
after (waiting s) piece (Err (under.Type feed.Spent)) = spent
after (stopped s fault) piece answer = stopped s fault
after (met s) piece answer = met s
after (broken s) piece answer = broken s
after spent piece answer = spent

-- a session of the type and the constraint with this past answers so, and has the past after that answer then
pub record FeedsToUnder {Q : Type 0} (r : Ruling) (took : Q → Shape → Constraint → PastUnder → Type 0) (new : Q)
    (t : Shape) (c : Constraint) (past : PastUnder) (piece : List ℕ) (answer : Result Step ConstrainedFeedFault)
    : Type 0 where
  pub answered : FedUnder r t c past piece answer
  pub taken : took new t c (after past piece answer)

-- whatever the type, the constraint and the past of a session, it answers the piece as `FeedsToUnder` says
abbrev pub FeedsUnder : {Q : Type 0} → Ruling → (Q → Shape → Constraint → PastUnder → Type 0) → Q → Q → List ℕ
    → Result Step ConstrainedFeedFault → Type 0
FeedsUnder r took old new piece answer =
    (t : Shape) (c : Constraint) (past : PastUnder) → took old t c past → FeedsToUnder r took new t c past piece answer

-- ---- finish

-- what is answered at the end of octets that no value was answered of: as without the constraint; where they are an
-- encoding of a type that has one of no octets, its value was not judged
abbrev pub FinishedWaiting : Ruling → Shape → Constraint → Past → Result (Unit {0}) FinishFault → Type 0
FinishedWaiting r t c past (Ok u) = (v : Datum) × IsEncodingUnder r t c v (inner.octets_taken past)
FinishedWaiting r t c past (Err (finish.Type cut)) = Finished r t past (Err cut)
FinishedWaiting r t c past (Err finish.Broken) = ⊥
FinishedWaiting r t c past (Err finish.NotJudged) = (v : Datum) × IsEncoding r t v (inner.octets_taken past)

-- what is answered at the end
abbrev pub FinishedUnder : Ruling → Shape → Constraint → PastUnder → Result (Unit {0}) FinishFault → Type 0
FinishedUnder r t c (waiting s) answer = FinishedWaiting r t c (inner.waiting s) answer
FinishedUnder r t c (stopped s fault) answer = FinishedWaiting r t c (inner.stopped s fault) answer
FinishedUnder r t c (met s) answer = (answer ≡ Ok tt) × (v : Datum) × IsEncodingUnder r t c v s
FinishedUnder r t c (broken s) answer =
    (answer ≡ Err finish.Broken) × (v : Datum) × IsEncoding r t v s × (meets c v ≡ false)
FinishedUnder r t c spent answer = answer ≡ Err finish.NotJudged
