-- What a session under a constraint answers of a value, from what the session of the type alone inside it answers.
use Rattle.std.proofs.Common.{◌≡◌, ◌+◌, ◌≤◌, ℕ, true, Some, None, Ok, Err, List, length, take, refl, subst, arith}
use Rattle.std.specs.Prelude.{◌++◌, Result}
use Rattle.std.proofs.lemmas.List.{length-take, take-take}
use Rattle.asn_values.specs.Datum.{Datum}
use Rattle.asn_values.specs.Shape.{Shape}
use Rattle.asn_values.specs.View.{datum_of}
use Rattle.asn_values.specs.declared.value.Value.{Value}
use Rattle.asn_rules.specs.declared.session.Step.{Step}
use Rattle.asn_rules.specs.declared.session.Step.TheVariants as step
use Rattle.asn_rules.specs.declared.session.FeedFault.{FeedFault}
use Rattle.asn_rules.specs.declared.session.FeedFault.TheVariants as feed
use Rattle.asn_rules.specs.Answer.{Ruling, IsEncoding, Answer, done, max_octets}
use Rattle.asn_rules.specs.Sessions as inner
use Rattle.asn_rules.specs.Sessions.{Past, Feeds, all_so_far}
use Rattle.asn_constraints.specs.Constraints.{Constraint, meets}
use Rattle.asn_constraints.specs.declared.broken.Broken.{Broken}
use Rattle.asn_constrained.specs.declared.fault.ConstrainedFeedFault.{ConstrainedFeedFault}
use Rattle.asn_constrained.specs.declared.fault.ConstrainedFeedFault.TheVariants as under
use Rattle.asn_constrained.specs.declared.session.End.{End}
use Rattle.asn_constrained.specs.declared.session.End.TheVariants as end
use Rattle.asn_constrained.specs.Under.{Found}
use Rattle.asn_constrained.specs.Sessions.{PastUnder, waiting, stopped, met, broken, spent, TookUnder, FedUnder, after}

module _ {Q : Type 0} (r : Ruling) (took : Q → Shape → Past → Type 0) (old new : Q) (held : Constraint) (e : End) (piece : List ℕ) where
  -- the answer to the piece, and the session after it, where it ends so
  pub record Turned (t : Shape) (c : Constraint) (past : PastUnder) (answer : Result Step ConstrainedFeedFault) (now : End) : Type 0 where
    pub answered : FedUnder r t c past piece answer
    pub taken : TookUnder r took new held now t c (after past piece answer)

  -- a session that does not go on answers a fault
  no_step : (s : Step) (fault : FeedFault) → (Ok s ≡ Err fault) → ⊥
  no_step s fault h = cc h

  -- the octets of a value that was answered
  whole : (t : Shape) (s : List ℕ) (v : Datum) (n : ℕ) → Answer r t (all_so_far s piece) (done v n) → IsEncoding r t v (take n (s ++ piece))
  whole t s v n h =
      let few = length-take max_octets (s ++ piece) in
      let read : n ≤ max_octets = omega (arith, h.0, few) in
      subst (IsEncoding r t v) (take-take n max_octets (s ++ piece) read) h.1

  -- a value that meets the constraint
  pub met_turned : (v : Value) (used : ℕ) → Feeds r took old new piece (Ok (step.Done v used)) → Found held (datum_of v) None
      → (t : Shape) (c : Constraint) (past : PastUnder) → TookUnder r took old held e t c past → Turned t c past (Ok (step.Done v used)) end.Met
  met_turned v used f found t c (waiting s) h =
      let w = f t (inner.waiting s) h.inside in
      let good : meets c (datum_of v) ≡ true = subst (λ (k : Constraint). meets k (datum_of v) ≡ true) h.same found in
      record {
        answered = (w.answered, good);
        taken = record { inside = w.taken; same = h.same; ends = refl; known = (datum_of v, (whole t s (datum_of v) (length s + used) w.answered, good)) };
      }
  met_turned v used f found t c (stopped s fault) h = absurd (no_step (step.Done v used) fault (f t (inner.stopped s fault) h.inside).answered)
  met_turned v used f found t c (met s) h = absurd (no_step (step.Done v used) feed.Spent (f t (inner.over s) h.inside).answered)
  met_turned v used f found t c (broken s) h = absurd (no_step (step.Done v used) feed.Spent (f t (inner.over s) h.inside).answered)
  met_turned v used f found t c spent h = absurd (no_step (step.Done v used) feed.Spent (f t (inner.over h.inside.0) h.inside.1).answered)

  -- one that breaks it
  pub broken_turned : (v : Value) (used : ℕ) (b : Broken) → Feeds r took old new piece (Ok (step.Done v used)) → Found held (datum_of v) (Some b)
      → (t : Shape) (c : Constraint) (past : PastUnder) → TookUnder r took old held e t c past → Turned t c past (Err (under.Broken used b)) end.Broken
  broken_turned v used b f found t c (waiting s) h =
      let w = f t (inner.waiting s) h.inside in
      let here : Found c (datum_of v) (Some b) = subst (λ (k : Constraint). Found k (datum_of v) (Some b)) h.same found in
      record {
        answered = record { value = datum_of v; answered = w.answered; broken = here.0; place = here.1 };
        taken = record { inside = w.taken; same = h.same; ends = refl; known = (datum_of v, whole t s (datum_of v) (length s + used) w.answered, here.0) };
      }
  broken_turned v used b f found t c (stopped s fault) h = absurd (no_step (step.Done v used) fault (f t (inner.stopped s fault) h.inside).answered)
  broken_turned v used b f found t c (met s) h = absurd (no_step (step.Done v used) feed.Spent (f t (inner.over s) h.inside).answered)
  broken_turned v used b f found t c (broken s) h = absurd (no_step (step.Done v used) feed.Spent (f t (inner.over s) h.inside).answered)
  broken_turned v used b f found t c spent h = absurd (no_step (step.Done v used) feed.Spent (f t (inner.over h.inside.0) h.inside.1).answered)
