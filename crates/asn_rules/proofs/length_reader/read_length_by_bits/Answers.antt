-- Each bit leads the length on, ends it, or is refused.
use Rattle.std.proofs.Common.{◌++◌, ◌∷◌, [], ℕ, refl, subst}
use Rattle.asn_bits.specs.LengthBits.{CountsLeft, StartsSome, WholeLength, Goes}
use Rattle.asn_bits.specs.declared.number_field.FieldState.TheVariants as state
use Rattle.asn_rules.proofs.Plain.LengthReading.{bit_is, in_length_done, in_length_refused, in_length_short}
use Rattle.asn_rules.proofs.length_reader.read_length_by_bits.Goals as goal

pub returns-in-Number-clause-done : goal.returns-in-Number-clause-done
returns-in-Number-clause-done c =
    let now = c.loop-bit.lengths in
    let n = c.in-Number.items in
    let b = bit_is c.in-Some.bit c.in-Some.ensures.bit in
    let w : WholeLength (CountsLeft now.counts now.blocks) (now.bits ++ c.in-Some.bit ∷ []) n = subst (λ (u : ℕ). WholeLength (CountsLeft now.counts now.blocks) (now.bits ++ u ∷ []) n) b c.in-Number.ensures.first in
    let g : Goes now (c.in-Some.bit ∷ []) (state.Number n) c.bit.new.self = subst (λ (u : ℕ). Goes now (u ∷ []) (state.Number n) c.bit.new.self) b c.in-Number.ensures.goes in
    in_length_done c.loop-bit.invariant c.in-Some.ensures.some w g

pub returns-in-Dead-clause-stop : goal.returns-in-Dead-clause-stop
returns-in-Dead-clause-stop c R =
    let now = c.loop-bit.lengths in
    let dead : StartsSome (CountsLeft now.counts now.blocks) (now.bits ++ c.in-Some.bit ∷ []) → ⊥ =
    subst (λ (u : ℕ). StartsSome (CountsLeft now.counts now.blocks) (now.bits ++ u ∷ []) → ⊥) (bit_is c.in-Some.bit c.in-Some.ensures.bit) c.in-Dead.ensures.first in
    record { told = rw c.bits_left.ensures.count (in_length_refused R c.loop-bit.invariant c.in-Some.ensures.some dead) }

pub returns-clause-stop : goal.returns-clause-stop
returns-clause-stop c R = record { told = in_length_short R c.loop-bit.invariant (c.in_default.ensures.none.0 refl) }
