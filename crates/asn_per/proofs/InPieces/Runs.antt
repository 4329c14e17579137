-- Items that a piece has whole, many at once.
use Rattle.std.proofs.Common.{◌≡◌, ◌<◌, ◌+◌, ◌-◌, ◌/◌, ◌%◌, ◌^◌, ℕ, zero, suc, List, [], ◌∷◌, ◌++◌, refl, sym, ap, subst, ◌∙◌, arith}
use Rattle.asn_bits.specs.Numbers.{bits}
use Rattle.asn_bits.proofs.Weights.{bits_are}
use Rattle.asn_rules.specs.Chunks.{Chunk}
use Rattle.asn_rules.specs.Languages.{Spells}
use Rattle.asn_rules.proofs.Numbers.Sets.{set_spells}
use Rattle.asn_walk.proofs.Listing.{appends_one, appends_more}
use Rattle.asn_per.specs.Per.{per_fields}
use Rattle.asn_per.specs.Reading.{Appends}
use Rattle.asn_per.specs.SingleItems.{BitHeld, TakesItems}

-- items that PER's own readers append
pub takes : {L : ℕ → List Chunk → Type 0} (n : ℕ) {old new us r : List ℕ} → Appends L n old new us r → TakesItems L n old new us r
takes n h = record { row = h.row; same = h.same; spelt = h.spelt }

-- a bit in front of others
held_front : (b : ℕ) (r : List ℕ) → b < 2 → Spells per_fields BitHeld b (b ∷ r) r
held_front zero r l = set_spells per_fields 0 (0 ∷ []) r (bits_are 1 0 (omega arith)) (omega arith)
held_front (suc zero) r l = set_spells per_fields 1 (1 ∷ []) r (bits_are 1 1 (omega arith)) (omega arith)
held_front (suc (suc b)) r l = absurd (omega (arith, l))

-- the next bit of a number
pub next_held : (i n word b : ℕ) {old mid new : List ℕ} → i < n → b ≡ word / 2 ^ (n - 1 - i) % 2 → new ≡ mid ++ b ∷ []
    → ((r : List ℕ) → TakesItems BitHeld i old mid (bits n word ++ r) (bits (n - i) word ++ r))
    → (r : List ℕ) → TakesItems BitHeld (i + 1) old new (bits n word ++ r) (bits (n - (i + 1)) word ++ r)
next_held i n word b {old} {mid} {new} l e s h r =
    let j = n - 1 - i in
    let before : n - i ≡ suc j = omega arith in
    let after : n - (i + 1) ≡ j = omega arith in
    let few : b < 2 = omega (arith, e) in
    let here : bits (n - i) word ++ r ≡ b ∷ (bits j word ++ r) = ap (λ k. bits k word ++ r) before ∙ ap (λ d. d ∷ (bits j word ++ r)) (sym e) in
    subst (λ k. TakesItems BitHeld (i + 1) old new (bits n word ++ r) (bits k word ++ r)) (sym after)
    (appends_more i 1 (i + 1) refl (h r) (subst (λ us. TakesItems BitHeld 1 mid new us (bits j word ++ r)) (sym here) (appends_one s (held_front b (bits j word ++ r) few))))
