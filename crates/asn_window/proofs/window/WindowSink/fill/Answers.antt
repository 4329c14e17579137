-- Eight zeros, or those that fill up the last octet.
use Rattle.std.proofs.Common.{◌≡◌, ◌++◌, ◌%◌, ◌-◌, ℕ, List, true, sym, subst, ◌∙◌}
use Rattle.std.proofs.lemmas.Bool.{true≢false}
use Rattle.asn_bits.specs.Numbers.{bits}
use Rattle.asn_sinks.specs.Sink.{filling}
use Rattle.asn_window.specs.Windows.{WindowStands, is_nil}
use Rattle.asn_window.proofs.WindowSteps.{filled_none, filled_some, zeros_pad}
use Rattle.asn_window.proofs.window.WindowSink.fill.Goals.{else-some-via-then-some+else-self, else-some-via-else-some}
use Rattle.asn_window.proofs.window.WindowSink.fill.Goals as goal

pub returns-then-self : goal.returns-then-self
returns-then-self g c at taken coming told =
    let some = c.args.some in
    let e : filling some taken ≡ bits 8 0 = filled_none some taken c.if-some.true (sym told.empty ∙ c.if-self.true) in
    subst (λ (xs : List ℕ). WindowStands g.O.Output.held c.put.new.self at (taken ++ xs) coming) (sym e)
    (c.put.ensures at taken coming (subst (λ (xs : List ℕ). WindowStands g.O.Output.held c.args.self.now at taken (xs ++ coming)) e told))

pub returns : goal.returns
returns g c at taken coming told =
    let some = c.args.some in
    let phase = c.args.self.now.phase in
    let other : some ≡ true → is_nil taken ≡ true → ⊥ = λ s n. elim c.else-some.branch [
      | else-some-via-then-some+else-self w ↦ true≢false (sym (told.empty ∙ n) ∙ w.if-self.false)
      | else-some-via-else-some w ↦ true≢false (sym s ∙ w.if-some.false)
    ] in
    let e : filling some taken ≡ bits ((8 - phase) % 8) 0 = filled_some some taken other ∙ sym (zeros_pad phase taken told.phase) in
    subst (λ (xs : List ℕ). WindowStands g.O.Output.held c.put-2.new.self at (taken ++ xs) coming) (sym e)
    (c.put-2.ensures at taken coming (subst (λ (xs : List ℕ). WindowStands g.O.Output.held c.args.self.now at taken (xs ++ coming)) e told))
