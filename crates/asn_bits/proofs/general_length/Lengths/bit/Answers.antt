-- What the counts whose length goes on with the bit tell of all bits given.
use Rattle.std.proofs.Common.{◌≡◌, ◌++◌, ◌∷◌, [], List, ℕ, refl, sym, ap, ◌∙◌, subst}
use Rattle.std.proofs.lemmas.Bool.{true≢false}
use Rattle.asn_bits.specs.Ranges.{Spanned}
use Rattle.asn_bits.specs.Sink.{bit_of}
use Rattle.asn_bits.specs.LengthBits.{BegunLengths, given, BeginsLengths, EndsLength, CountsLeft, StartsSome, OpensLength, WholeLength, Goes}
use Rattle.asn_bits.specs.LengthStates.{spans, state_bits, IsLengthState, IsWhole}
use Rattle.asn_bits.specs.declared.number_field.FieldState.TheVariants as state
use Rattle.asn_bits.specs.declared.general_length.LengthState.{LengthState}
use Rattle.asn_bits.specs.declared.general_length.LengthState.TheVariants.{Number}
use Rattle.asn_bits.proofs.GivenLengths.{dead_bit, live_bit, whole_dead, whole_stops, whole_more, part_first, after_reading, after_goes, whole_ends, part_open}
use Rattle.asn_bits.proofs.general_length.Lengths.bit.Goals as goal

-- the state in which the length is whole
abbrev here : (c : goal.After-from) → LengthState
here c = Number c.in-Some-completed.form c.in-Some-completed.number 0

fits : (c : goal.After-from) → IsLengthState (here c)
fits c = subst (λ (p : LengthState). IsLengthState p) c.in-Some-completed.ensures.some c.in-Some.ensures.state

starts : (c : goal.After-from) → StartsSome (CountsLeft (spans c.self.inside.first c.self.inside.second) c.self.inside.blocks_read) (state_bits (here c))
starts c = subst (λ (p : LengthState). StartsSome (CountsLeft (spans c.self.inside.first c.self.inside.second) c.self.inside.blocks_read) (state_bits p)) c.in-Some-completed.ensures.some (c.is_viable.ensures.exact.0 c.if-not-is_viable.false)

more : (c : goal.After-from) → state_bits (here c) ≡ state_bits c.self.inside.state ++ bit_of c.args.bit ∷ []
more c = ap state_bits (sym c.in-Some-completed.ensures.some) ∙ c.in-Some.ensures.bits

here_whole : (c : goal.After-from) → WholeLength (CountsLeft (spans c.self.inside.first c.self.inside.second) c.self.inside.blocks_read) (state_bits c.self.inside.state ++ bit_of c.args.bit ∷ []) c.after_length-items.result.0
here_whole c =
    let s = c.self.inside in
    whole_more (CountsLeft (spans s.first s.second) s.blocks_read) s.blocks_read c.in-Some-completed.form c.in-Some-completed.number (c.after_length-items.result.0, c.after_length-items.result.1, c.after_length-items.result.2) (state_bits s.state) (bit_of c.args.bit ∷ []) (fits c) (starts c) c.after_length-items.ensures (more c)

pub returns-in_default-clause-state : goal.returns-in_default-clause-state
returns-in_default-clause-state c =
    let s = c.self.inside in
    subst (λ (v : BegunLengths). BeginsLengths (Spanned v.counts) (given v ++ bit_of c.args.bit ∷ []) → ⊥) c.self.view_is
    (whole_dead (spans s.first s.second) s.blocks_read s.state (bit_of c.args.bit) c.self.invariant (c.in_default.ensures.none refl))

pub returns-in_default-clause-first : goal.returns-in_default-clause-first
returns-in_default-clause-first c =
    let s = c.self.inside in
    subst (λ (v : BegunLengths). StartsSome (CountsLeft v.counts v.blocks) (v.bits ++ bit_of c.args.bit ∷ []) → ⊥) c.self.view_is
    (whole_stops (spans s.first s.second) s.blocks_read s.state (bit_of c.args.bit) c.self.invariant (c.in_default.ensures.none refl))

pub returns-then-not-is_viable-clause-first : goal.returns-then-not-is_viable-clause-first
returns-then-not-is_viable-clause-first c =
    let s = c.self.inside in
    let is = spans s.first s.second in
    subst (λ (v : BegunLengths). StartsSome (CountsLeft v.counts v.blocks) (v.bits ++ bit_of c.args.bit ∷ []) → ⊥) c.self.view_is
    (subst (λ (bs : List ℕ). StartsSome (CountsLeft is s.blocks_read) bs → ⊥) c.in-Some.ensures.bits (λ h. true≢false (sym (c.is_viable.ensures.exact.1 h) ∙ c.if-not-is_viable.true)))

pub returns-clause-first : goal.returns-clause-first
returns-clause-first c =
    let s = c.self.inside in
    let is = spans s.first s.second in
    let some = c.is_viable.ensures.exact.0 c.if-not-is_viable.false in
    subst (λ (v : BegunLengths). OpensLength (CountsLeft v.counts v.blocks) (v.bits ++ bit_of c.args.bit ∷ [])) c.self.view_is
    (subst (λ (bs : List ℕ). OpensLength (CountsLeft is s.blocks_read) bs) c.in-Some.ensures.bits (part_first (CountsLeft is s.blocks_read) c.in-Some.state c.in-Some.ensures.state some (c.in_default-completed.ensures.none refl)))

pub returns-then-not-is_viable-clause-state : goal.returns-then-not-is_viable-clause-state
returns-then-not-is_viable-clause-state c =
    let s = c.self.inside in
    subst (λ (v : BegunLengths). BeginsLengths (Spanned v.counts) (given v ++ bit_of c.args.bit ∷ []) → ⊥) c.self.view_is
    (dead_bit (spans s.first s.second) s.blocks_read (state_bits s.state) (bit_of c.args.bit ∷ []) c.in-Some.state c.in-Some.ensures.state c.in-Some.ensures.bits
    (λ h. true≢false (sym (c.is_viable.ensures.exact.1 h) ∙ c.if-not-is_viable.true)))

pub invariant_of-self : goal.invariant_of-self
invariant_of-self c =
    let s = c.self.inside in
    after_reading (spans s.first s.second) s.blocks_read c.in-Some-completed.form c.in-Some-completed.number (c.after_length-items.result.0, c.after_length-items.result.1, c.after_length-items.result.2) (fits c) (starts c) c.after_length-items.ensures

pub returns-in-Some-completed-clause-state : goal.returns-in-Some-completed-clause-state
returns-in-Some-completed-clause-state c =
    let s = c.self.inside in
    let b = bit_of c.args.bit in
    subst (λ (n : ℕ). EndsLength (Spanned c.args.self.now.counts) (given c.args.self.now ++ b ∷ []) n) (sym c.from.ensures)
    (subst (λ (v : BegunLengths). EndsLength (Spanned v.counts) (given v ++ b ∷ []) c.after_length-items.result.0) c.self.view_is
    (whole_ends (spans s.first s.second) s.blocks_read (state_bits s.state) (b ∷ []) c.after_length-items.result.0 (here_whole c)))

pub returns-in-Some-completed-clause-first : goal.returns-in-Some-completed-clause-first
returns-in-Some-completed-clause-first c =
    let v = c.args.self.now in
    subst (λ (n : ℕ). WholeLength (CountsLeft v.counts v.blocks) (v.bits ++ bit_of c.args.bit ∷ []) n) (sym c.from.ensures)
    (subst (λ (v : BegunLengths). WholeLength (CountsLeft v.counts v.blocks) (v.bits ++ bit_of c.args.bit ∷ []) c.after_length-items.result.0) c.self.view_is (here_whole c))

pub returns-in-Some-completed-clause-goes : goal.returns-in-Some-completed-clause-goes
returns-in-Some-completed-clause-goes c =
    let s = c.self.inside in
    let b = bit_of c.args.bit in
    let new : BegunLengths = record { counts = spans s.first s.second; blocks = c.after_length-items.result.1; bits = state_bits c.after_length-items.result.2 } in
    subst (λ (n : ℕ). Goes c.args.self.now (b ∷ []) (state.Number n) new) (sym c.from.ensures)
    (subst (λ (v : BegunLengths). Goes v (b ∷ []) (state.Number c.after_length-items.result.0) new) c.self.view_is
    (after_goes (spans s.first s.second) s.blocks_read c.in-Some-completed.form c.in-Some-completed.number (c.after_length-items.result.0, c.after_length-items.result.1, c.after_length-items.result.2) (state_bits s.state) (b ∷ []) (fits c) (starts c) c.after_length-items.ensures (more c)))

pub returns-clause-state : goal.returns-clause-state
returns-clause-state c =
    let s = c.self.inside in
    let b = bit_of c.args.bit in
    let some = c.is_viable.ensures.exact.0 c.if-not-is_viable.false in
    let part : IsWhole c.in-Some.state → ⊥ = c.in_default-completed.ensures.none refl in
    subst (λ (v : BegunLengths). BeginsLengths (Spanned v.counts) (given v ++ b ∷ []) × ((n : ℕ) → EndsLength (Spanned v.counts) (given v ++ b ∷ []) n → ⊥)) c.self.view_is (
      live_bit (spans s.first s.second) s.blocks_read (state_bits s.state) (b ∷ []) (state_bits c.in-Some.state) c.in-Some.ensures.bits some,
      λ n e. part_open (spans s.first s.second) s.blocks_read (state_bits s.state) b c.in-Some.state n c.in-Some.ensures.state c.in-Some.ensures.bits part e,
    )
