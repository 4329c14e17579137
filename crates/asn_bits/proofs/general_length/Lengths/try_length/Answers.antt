-- A whole length in one step, as its bits tell.
use Rattle.std.proofs.Common.{rules, ◌≡◌, ◌↔◌, ◌++◌, ℕ, true, [], IsTrue, refl, sym, ap, ◌∙◌, subst}
use Rattle.std.proofs.lemmas.Bool.{true≢false}
use Rattle.asn_bits.specs.LengthBits.{BegunLengths, CountsLeft, StartsSome, LengthAhead, Takes}
use Rattle.asn_bits.specs.LengthStates.{spans, state_bits}
use Rattle.asn_bits.specs.declared.general_length.LengthState.{LengthState}
use Rattle.asn_bits.specs.declared.general_length.LengthState.TheVariants as place
use Rattle.asn_bits.proofs.FirstLengths.{ahead_starts}
use Rattle.asn_bits.proofs.GivenLengths.{after_reading, after_goes, whole_first, whole_more, whole_ends}
use Rattle.asn_bits.proofs.general_length.Lengths.try_length.Goals as goal
use Rattle.asn_bits.proofs.general_length.Lengths.try_length.Goals.{in-Start, in_default, in_default-via-in-None-1, in_default-via-in-Some+else-is_viable}

-- no bit of the length is given
at_start : (c : goal.After-self-2-1) → c.self.inside.state ≡ place.Start
at_start c = elim c.match-matches.branch [ in-Start w ↦ w.in-Start.is | in_default w ↦ absurd (true≢false (sym c.if-not-matches.false ∙ w.matches-is)) ]

pub returns-then-not-matches-clause-live : goal.returns-then-not-matches-clause-live
returns-then-not-matches-clause-live c =
    let s = c.self.inside in
    subst (λ (v : BegunLengths). StartsSome (CountsLeft v.counts v.blocks) v.bits) c.self.view_is c.self.invariant.live

pub invariant_of-self : goal.invariant_of-self
invariant_of-self c =
    let s = c.self.inside in
    after_reading (spans s.first s.second) s.blocks_read c.in-Some.form c.in-Some.number (c.after_length-items.result.0, c.after_length-items.result.1, c.after_length-items.result.2) c.in-Some.ensures.some.0 (c.is_viable.ensures.exact.0 c.if-is_viable.true) c.after_length-items.ensures

pub returns-clause-some : goal.returns-clause-some
returns-clause-some c =
    let s = c.self.inside in
    let is = spans s.first s.second in
    let x : ℕ × ℕ × LengthState = (c.after_length-items.result.0, c.after_length-items.result.1, c.after_length-items.result.2) in
    let front = state_bits (place.Number c.in-Some.form c.in-Some.number 0) in
    let some = c.is_viable.ensures.exact.0 c.if-is_viable.true in
    let new : BegunLengths = record { counts = is; blocks = c.after_length-items.result.1; bits = state_bits c.after_length-items.result.2 } in
    let whole : front ≡ state_bits s.state ++ front = ap (λ p. state_bits p ++ front) (sym (at_start c)) in
    let all = whole_more (CountsLeft is s.blocks_read) s.blocks_read c.in-Some.form c.in-Some.number x (state_bits s.state) front c.in-Some.ensures.some.0 some c.after_length-items.ensures whole in
    subst (λ (v : BegunLengths). Takes v c.args.bits.now c.next_length.new.bits c.after_length-items.result.0 new) c.self.view_is (record {
      front = front;
      split = c.in-Some.ensures.some.1;
      ends = whole_ends is s.blocks_read (state_bits s.state) front x.0 all;
      whole = all;
      goes = after_goes is s.blocks_read c.in-Some.form c.in-Some.number x (state_bits s.state) front c.in-Some.ensures.some.0 some c.after_length-items.ensures whole;
    })

pub returns-clause-whole : goal.returns-clause-whole
returns-clause-whole c =
    let s = c.self.inside in
    let is = spans s.first s.second in
    let w = whole_first (CountsLeft is s.blocks_read) c.in-Some.form c.in-Some.number c.in-Some.ensures.some.0 (c.is_viable.ensures.exact.0 c.if-is_viable.true) in
    subst (λ (v : BegunLengths). IsTrue true ↔ ((v.bits ≡ []) × LengthAhead (CountsLeft v.counts v.blocks) c.args.bits.now)) c.self.view_is
    (λ t. (ap state_bits (at_start c), record { count = w.count; member = w.member; rest = c.next_length.new.bits; split = c.in-Some.ensures.some.1 ∙ ap (λ bs. bs ++ c.next_length.new.bits) (sym w.bits_are) }), λ h. refl)

pub returns-clause-live : goal.returns-clause-live
returns-clause-live c =
    let s = c.self.inside in
    subst (λ (v : BegunLengths). StartsSome (CountsLeft v.counts v.blocks) v.bits) c.self.view_is c.self.invariant.live

pub returns-2-clause-whole : goal.returns-2-clause-whole
returns-2-clause-whole c =
    let ahead : LengthAhead (CountsLeft c.args.self.now.counts c.args.self.now.blocks) c.args.bits.now → ⊥ = λ h.
    elim c.in_default.branch [
      | in_default-via-in-None-1 w ↦ c.next_length.ensures.none (search rules) (record { count = h.count; member = tt; rest = h.rest; split = h.split })
      | in_default-via-in-Some+else-is_viable w ↦
          let p = place.Number w.in-Some.form w.in-Some.number 0 in
          let starts = ahead_starts (CountsLeft c.args.self.now.counts c.args.self.now.blocks) c.args.bits.now c.next_length.new.bits p h w.in-Some.ensures.some.0 w.in-Some.ensures.some.1 in
          true≢false (sym (w.is_viable.ensures.exact.1 (subst (λ (v : BegunLengths). StartsSome (CountsLeft v.counts v.blocks) (state_bits p)) (sym c.self.view_is) starts)) ∙ w.if-is_viable.false)
    ] in
    (λ t. absurd (true≢false (sym t)), λ h. absurd (ahead h.1))

pub returns-2-clause-live : goal.returns-2-clause-live
returns-2-clause-live c =
    let s = c.self.inside in
    subst (λ (v : BegunLengths). StartsSome (CountsLeft v.counts v.blocks) v.bits) c.self.view_is c.self.invariant.live
