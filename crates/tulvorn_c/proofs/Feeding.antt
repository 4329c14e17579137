-- What a session under a constraint answers to a piece, from what the session of the type alone inside it answers.
use Rattle.std.proofs.Common.{◌≡◌, ◌≤◌, ◌<◌, ◌+◌, ◌++◌, ℕ, Bool, true, false, List, length, min, Option, Ok, Err, Some, refl, sym, ap, ◌∙◌, subst, arith}
use Rattle.std.specs.Prelude.{◌^◌, ◌-◌}
use Rattle.std.proofs.lemmas.List.{length-append, length-take}
use Rattle.asn_values.specs.Shape.{Shape}
use Rattle.asn_values.specs.View.{datum_of}
use Rattle.asn_values.specs.declared.value.Value.{Value}
use Rattle.asn_constraints.specs.Constraints.{meets}
use Rattle.asn_rules.specs.Answer.{Ruling, max_octets}
use Rattle.asn_rules.specs.Sessions.{Past, waiting, stopped, over, past_after, all_so_far, Feeds}
use Rattle.asn_rules.specs.declared.session.Step.{Step}
use Rattle.asn_rules.specs.declared.session.Step.TheVariants as step
use Rattle.asn_rules.specs.declared.session.FeedFault.{FeedFault}
use Rattle.asn_rules.specs.declared.session.FeedFault.TheVariants as feed
use Rattle.asn_rules.specs.declared.units.Unit as units
use Rattle.tulvorn_c.specs.declared.object.Object.{Object}
use Rattle.tulvorn_c.specs.declared.fault.Fault.{Fault}
use Rattle.tulvorn_c.specs.Faults.{plain, of_feed, broken_after}
use Rattle.tulvorn_c.specs.Held.{Constrained, value_of, held_valued}
use Rattle.tulvorn_c.specs.Sessions.{PastUnder, going, broken, Counts, HasTaken, TookBeside, TellsValue, TellsStep, past_under, AnswersUnder}

-- the sum of two numbers, of at most 64 bits
abbrev pub sum_of : ℕ → ℕ → ℕ
sum_of n k = min (n + k) (2 ^ 64 - 1)

-- a number of octets that are read is counted as it is
counted : (n k : ℕ) → n + k ≤ max_octets → sum_of n k ≡ n + k
counted n k h = omega (arith, h)

-- where a session goes on, it took the whole piece
took_all : (s piece : List ℕ) → length (all_so_far s piece) < max_octets → length (all_so_far s piece) ≡ length s + length piece
took_all s piece few = omega (arith, few, length-take max_octets (s ++ piece), length-append s piece)

-- where a value ends, the octets are read
ends_within : (s piece : List ℕ) (used : ℕ) → length s + used ≤ length (all_so_far s piece) → length s + used ≤ max_octets
ends_within s piece used h = omega (arith, h, length-take max_octets (s ++ piece))

no_step : (s : Step) (fault : FeedFault) → (Ok s ≡ Err fault) → ⊥
no_step s fault h = cc h

-- after a fault nothing is counted
uncounted : (n : ℕ) (past : Past) (piece : List ℕ) (why : FeedFault) → Counts n (past_after past piece (Err why))
uncounted n (waiting s) piece (feed.Refused at why) = tt
uncounted n (waiting s) piece feed.TooLong = tt
uncounted n (waiting s) piece feed.Memory = tt
uncounted n (waiting s) piece feed.Spent = tt
uncounted n (stopped s fault) piece why = tt
uncounted n (over s) piece why = tt

module _ {Q : Type 0} (r : Ruling) (took : Q → Shape → Past → Type 0) (q q' : Q) (u : units.Unit) (own : Constrained) (piece : List ℕ) (old new : Option Object) (before after : ℕ) (fault : Fault) where
  -- the answer of a session of the type whose handle holds it, with what it has taken before and then
  abbrev pub Turns : Bool → ℕ → Bool → ℕ → Type 0
  Turns b n b' n' =
      (t : Constrained) (past : PastUnder) → TookBeside own (took q) b n t past
      → AnswersUnder u r (TookBeside own (took q') b' n') t past piece old new before after fault

  -- it is enough to show it of the type itself
  of_own : (b b' : Bool) (n n' : ℕ) → ((past : PastUnder) → HasTaken (took q own.shape) b n past → AnswersUnder u r (TookBeside own (took q') b' n') own past piece old new before after fault) → Turns b n b' n'
  of_own b b' n n' f t past h =
      subst (λ (x : Constrained). AnswersUnder u r (TookBeside own (took q') b' n') x past piece old new before after fault) h.0
      (f past (subst (λ (x : Constrained). HasTaken (took q x.shape) b n past) (sym h.0) h.1))

  -- more is wanted
  pub more_turns : (n : ℕ) → Feeds r took q q' piece (Ok step.More) → fault ≡ plain 19 → new ≡ old → after ≡ before → Turns false n false (sum_of n (length piece))
  more_turns n f told stays same = of_own false false n (sum_of n (length piece)) go
    where
      go : (past : PastUnder) → HasTaken (took q own.shape) false n past → AnswersUnder u r (TookBeside own (took q') false (sum_of n (length piece))) own past piece old new before after fault
      go (going (waiting s)) h =
          let w = f own.shape (waiting s) h.0 in
          let few : length (all_so_far s piece) < max_octets = w.answered.2 in
          let all : length (all_so_far s piece) ≡ length s + length piece = took_all s piece few in
          let here : n ≡ length s = h.1 in
          let within : n + length piece ≤ max_octets = omega (arith, few, all, here) in
          let count : sum_of n (length piece) ≡ length (all_so_far s piece) = omega (arith, counted n (length piece) within, all, here) in
          record { answer = Ok step.More; answered = w.answered; taken = (refl, (w.taken, count)); told = (told, stays, same) }
      go (going (stopped s why)) h = absurd (no_step step.More why (f own.shape (stopped s why) h.0).answered)
      go (going (over s)) h = absurd (no_step step.More feed.Spent (f own.shape (over s) h.0).answered)
      go (broken k) h = absurd h

  -- a fault
  pub fault_turns : (n : ℕ) (why : FeedFault) → Feeds r took q q' piece (Err why) → fault ≡ of_feed why → new ≡ old → after ≡ before → Turns false n false n
  fault_turns n why f told stays same = of_own false false n n go
    where
      go : (past : PastUnder) → HasTaken (took q own.shape) false n past → AnswersUnder u r (TookBeside own (took q') false n) own past piece old new before after fault
      go (going past) h =
          let w = f own.shape past h.0 in
          record { answer = Err why; answered = w.answered; taken = (refl, (w.taken, uncounted n past piece why)); told = (told, stays, same) }
      go (broken k) h = absurd h

  -- a value that meets the constraint
  pub met_turns : (n n' : ℕ) (v : Value) (used : ℕ) → Feeds r took q q' piece (Ok (step.Done v used)) → meets own.constraint (datum_of v) ≡ true
      → TellsValue true u n old new (held_valued new ≡ Some (value_of own (datum_of v))) before after used fault → Turns false n false n'
  met_turns n n' v used f met told = of_own false false n n' go
    where
      go : (past : PastUnder) → HasTaken (took q own.shape) false n past → AnswersUnder u r (TookBeside own (took q') false n') own past piece old new before after fault
      go (going (waiting s)) h =
          let w = f own.shape (waiting s) h.0 in
          let taken : HasTaken (took q' own.shape) false n' (past_under own (waiting s) piece (Ok (step.Done v used))) = rw met (w.taken, tt) in
          let said : TellsStep u own (length s) (Ok (step.Done v used)) old new before after fault = rw met told in
          record { answer = Ok (step.Done v used); answered = w.answered; taken = (refl, taken); told = said }
      go (going (stopped s why)) h = absurd (no_step (step.Done v used) why (f own.shape (stopped s why) h.0).answered)
      go (going (over s)) h = absurd (no_step (step.Done v used) feed.Spent (f own.shape (over s) h.0).answered)
      go (broken k) h = absurd h

  -- one that breaks it
  pub broken_turns : (n : ℕ) (v : Value) (used : ℕ) → Feeds r took q q' piece (Ok (step.Done v used)) → meets own.constraint (datum_of v) ≡ false
      → fault ≡ broken_after u (sum_of n used) → new ≡ old → after ≡ before → Turns false n true (sum_of n used)
  broken_turns n v used f broke told stays same = of_own false true n (sum_of n used) go
    where
      go : (past : PastUnder) → HasTaken (took q own.shape) false n past → AnswersUnder u r (TookBeside own (took q') true (sum_of n used)) own past piece old new before after fault
      go (going (waiting s)) h =
          let w = f own.shape (waiting s) h.0 in
          let here : n ≡ length s = h.1 in
          let read : length s + used ≤ max_octets = ends_within s piece used w.answered.0 in
          let within : n + used ≤ max_octets = omega (arith, read, here) in
          let count : sum_of n used ≡ length s + used = omega (arith, counted n used within, here) in
          let taken : HasTaken (took q' own.shape) true (sum_of n used) (past_under own (waiting s) piece (Ok (step.Done v used))) = rw broke count in
          let place : fault ≡ broken_after u (length s + used) = told ∙ ap (broken_after u) count in
          let said : TellsStep u own (length s) (Ok (step.Done v used)) old new before after fault = rw broke (place, stays, same) in
          record { answer = Ok (step.Done v used); answered = w.answered; taken = (refl, taken); told = said }
      go (going (stopped s why)) h = absurd (no_step (step.Done v used) why (f own.shape (stopped s why) h.0).answered)
      go (going (over s)) h = absurd (no_step (step.Done v used) feed.Spent (f own.shape (over s) h.0).answered)
      go (broken k) h = absurd h

  -- and each piece after that
  pub broken_stays : (n : ℕ) → fault ≡ broken_after u n → new ≡ old → after ≡ before → Turns true n true n
  broken_stays n told stays same = of_own true true n n go
    where
      go : (past : PastUnder) → HasTaken (took q own.shape) true n past → AnswersUnder u r (TookBeside own (took q') true n) own past piece old new before after fault
      go (going past) h = absurd h
      go (broken k) h = ((refl, h), told ∙ ap (broken_after u) h, stays, same)
