-- Presence bits as the reader of skipped fields counts them.
use Rattle.std.proofs.Common.{◌≡◌, ◌<◌, ◌≤◌, ◌+◌, ℕ, Bool, false, [], ◌∷◌, length, ⊎_elim, sym, ap, ◌∙◌, arith}
use Rattle.asn_bits.specs.Numbers.{bits}
use Rattle.asn_bits.proofs.Octets.{length-digits}
use Rattle.asn_walk.specs.declared.presence.PresenceBits.{PresenceBits}
use Rattle.asn_newer.specs.Bitmaps.{NextBit, bits_left}
use Rattle.asn_newer.proofs.Walk.Following.{bit_unset}

-- one bit fewer, one index on
pub one_on : {old new : PresenceBits} {b : Bool} (at all : ℕ) → NextBit old new b → old.left + at ≡ all → at < all → new.left + (at + 1) ≡ all
one_on at all n e l = ⊎_elim (λ p. absurd (omega (arith, p.0, e, l))) (λ p. omega (arith, p, e)) n.count

-- the next bit is 0, where one is left
pub bit_absent : {old new : PresenceBits} {b : Bool} (at all : ℕ) → NextBit old new b → b ≡ false → old.left + at ≡ all → at < all → bits_left old ≡ 0 ∷ bits_left new
bit_absent {old} {new} at all n f e l = ⊎_elim (λ p. absurd (omega (arith, sym (length-digits 2 old.left old.bitmap) ∙ ap length p.0, e, l))) (λ p. p) (bit_unset n f)

-- none is left
pub none_is_left : (p : PresenceBits) (at all : ℕ) → p.left + at ≡ all → all ≤ at → bits_left p ≡ []
none_is_left p at all e l = (let none : p.left ≡ 0 = omega (arith, e, l) in ap (λ (n : ℕ). bits n p.bitmap) none)
