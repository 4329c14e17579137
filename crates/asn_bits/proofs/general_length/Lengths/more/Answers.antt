-- After a fragment another length comes, and after another length none.
use Rattle.std.proofs.Common.{◌≡◌, ◌≢◌, ◌↔◌, ◌<◌, ◌++◌, [], ℕ, true, false, IsTrue, nat_lt, refl, sym, ◌∙◌, subst, arith}
use Rattle.std.proofs.lemmas.Bool.{true≢false, le-ltb}
use Rattle.asn_bits.specs.Ranges.{Spanned}
use Rattle.asn_bits.specs.LengthBits.{BegunLengths, given, EndsLength, fragments, length_bits}
use Rattle.asn_bits.specs.LengthStates.{spans, state_bits}
use Rattle.asn_bits.specs.declared.general_length.LengthState.{LengthState}
use Rattle.asn_bits.proofs.GivenLengths.{more_start, more_not, start_bits}
use Rattle.asn_bits.proofs.general_length.Lengths.more.Goals as goal

pub returns-in-Start-clause-more : goal.returns-in-Start-clause-more
returns-in-Start-clause-more c =
    let s = c.self.inside in
    subst (λ (v : BegunLengths). (n : ℕ) → (e : EndsLength (Spanned v.counts) (given v) n) → IsTrue true ↔ (e.after ≢ [])) c.self.view_is
    (subst (λ (p : LengthState). (n : ℕ) → (e : EndsLength (Spanned (spans s.first s.second)) (length_bits (fragments s.blocks_read) ++ state_bits p) n) → IsTrue true ↔ (e.after ≢ [])) (sym c.in-Start.is)
    (λ n e. (λ t. more_start (spans s.first s.second) s.blocks_read n e, λ f. refl)))

pub returns-in_default : goal.returns-in_default
returns-in_default c =
    let s = c.self.inside in
    record {
      fragment = subst (λ (v : BegunLengths). IsTrue false ↔ ((0 < v.blocks) × (v.bits ≡ []))) c.self.view_is
          (λ t. absurd (true≢false (sym t)), λ h. absurd (c.in_default.not-Start (start_bits s.state h.1)));
      more = subst (λ (v : BegunLengths). (n : ℕ) → (e : EndsLength (Spanned v.counts) (given v) n) → IsTrue false ↔ (e.after ≢ [])) c.self.view_is
          (λ n e. (λ t. absurd (true≢false (sym t)), λ f. absurd (f (more_not (spans s.first s.second) s.blocks_read s.state n c.self.invariant (λ q. absurd (c.in_default.not-Start q)) e))));
    }

pub returns-else-self-gt0-clause-more : goal.returns-else-self-gt0-clause-more
returns-else-self-gt0-clause-more c =
    let s = c.self.inside in
    let none : s.blocks_read ≡ 0 = omega arith in
    let no_more : nat_lt 0 s.blocks_read ≡ false = le-ltb 0 s.blocks_read c.if-self-gt0.false in
    subst (λ (v : BegunLengths). (n : ℕ) → (e : EndsLength (Spanned v.counts) (given v) n) → IsTrue (nat_lt 0 s.blocks_read) ↔ (e.after ≢ [])) c.self.view_is
    (λ n e. (λ t. absurd (true≢false (sym t ∙ no_more)), λ f. absurd (f (more_not (spans s.first s.second) s.blocks_read s.state n c.self.invariant (λ q. none) e))))
