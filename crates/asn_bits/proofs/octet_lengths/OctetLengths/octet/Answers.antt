use Rattle.std.proofs.Common.{◌≡◌, ◌++◌, ◌∷◌, [], ℕ, sym, subst}
use Rattle.asn_bits.specs.Lengths.{octet_length}
use Rattle.asn_bits.specs.Ranges.{Spanned}
use Rattle.asn_bits.specs.LengthStates.{spans}
use Rattle.asn_bits.specs.OctetLengths.{BegunOctets, BeginsLength, GoesOn, IsWholeLength, state_octets}
use Rattle.asn_bits.proofs.LengthsInOctets.{tells_dead, tells_number, tells_alive}
use Rattle.asn_bits.proofs.octet_lengths.OctetLengths.octet.Goals as goal

pub returns-then-not-reaches-clause-state : goal.returns-then-not-reaches-clause-state
returns-then-not-reaches-clause-state c =
    let s = c.self.inside in
    let dead = tells_dead (spans s.first s.second) c.in-Some.state (state_octets s.state ++ c.args.octet ∷ []) c.lengths_after-low.result.0 c.lengths_after-low.result.1 c.in-Some.ensures.octets c.lengths_after-low.ensures.exact (λ r. (let t = c.reaches.ensures.exact.1 r in absurd (cc))) in
    subst (λ (v : BegunOctets). BeginsLength (Spanned v.counts) (v.given ++ c.args.octet ∷ []) → ⊥) c.self.view_is dead

pub returns-then-is_whole-clause-state : goal.returns-then-is_whole-clause-state
returns-then-is_whole-clause-state c =
    let s = c.self.inside in
    let n = c.lengths_after-low.result.1 in
    let told = tells_number (spans s.first s.second) c.in-Some.state (state_octets s.state ++ c.args.octet ∷ []) c.lengths_after-low.result.0 n c.in-Some.ensures.octets c.lengths_after-low.ensures.exact c.in-Some.ensures.state (c.is_whole.ensures.there c.if-is_whole.true) (c.reaches.ensures.exact.0 c.if-not-reaches.false) in
    let v = c.args.self.now in
    subst (λ (m : ℕ). Spanned v.counts m × (octet_length m ≡ v.given ++ c.args.octet ∷ [])) (sym c.from.ensures)
    (subst (λ (v : BegunOctets). Spanned v.counts n × (octet_length n ≡ v.given ++ c.args.octet ∷ [])) c.self.view_is told)

pub returns-clause-state : goal.returns-clause-state
returns-clause-state c =
    let s = c.self.inside in
    let part : IsWholeLength c.in-Some.state → ⊥ = λ w. (let t = c.is_whole.ensures.back w in absurd (cc)) in
    let told = tells_alive (spans s.first s.second) c.in-Some.state (state_octets s.state ++ c.args.octet ∷ []) c.lengths_after-low.result.0 c.lengths_after-low.result.1 c.in-Some.ensures.octets c.lengths_after-low.ensures.exact c.in-Some.ensures.some c.in-Some.ensures.state part (c.reaches.ensures.exact.0 c.if-not-reaches.false) in
    subst (λ (v : BegunOctets). GoesOn (Spanned v.counts) (v.given ++ c.args.octet ∷ []) × ((m : ℕ) → Spanned v.counts m → octet_length m ≡ v.given ++ c.args.octet ∷ [] → ⊥)) c.self.view_is told
