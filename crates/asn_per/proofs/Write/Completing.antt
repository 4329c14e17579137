-- The encoder's last steps make a complete encoding.
use Rattle.std.proofs.Common.{◌≡◌, ◌≢◌, ◌⊎◌, ◌*◌, ℕ, List, [], ◌∷◌, ◌++◌, length, inl, inr, refl, sym, ap, ◌∙◌, arith}
use Rattle.asn_values.specs.Datum.{Datum}
use Rattle.asn_values.specs.Shape.{Shape}
use Rattle.asn_values.specs.Fits.{Fits}
use Rattle.asn_bits.specs.Numbers.{bits, padding, packed, unpacked}
use Rattle.asn_bits.proofs.Splits.{length-unpacked}
use Rattle.asn_rules.specs.Chunks.{Chunk, flat}
use Rattle.asn_per.specs.Per.{spelled, filling, complete, per, per_octets}
use Rattle.asn_per.specs.Rules.{per_ruling, IsPerEncoding}
use Rattle.asn_per.proofs.Encodings.Complete.{filled_is, complete_is, complete_full}
use Rattle.asn_per.proofs.Encodings.Spelt.{per_spelt}

-- what stands before the padding: eight zeros where there were no bits
abbrev pub Topped : List ℕ → List ℕ → Type 0
Topped before now = ((before ≡ []) × (now ≡ before ++ bits 8 0)) ⊎ ((before ≢ []) × (now ≡ before))

pub topped_fills : (before now : List ℕ) → Topped before now → now ++ padding (length now) ≡ before ++ filling (length before)
topped_fills before now (inl h) = rw (h.1, h.0) refl
topped_fills [] now (inr h) = absurd (h.0 refl)
topped_fills (b ∷ before) now (inr h) = rw h.1 refl

-- filled up, the bits of a spelling are packed into its complete encoding
pub completed : (cs : List Chunk) (now all o : List ℕ) → Topped (flat spelled cs) now → all ≡ now ++ padding (length now) → packed all ≡ o → o ≡ complete cs
completed cs now all o top e f = sym f ∙ ap packed (e ∙ topped_fills (flat spelled cs) now top) ∙ sym (complete_is cs)

-- which is the encoding of a value that has this spelling
pub is_encoding : (t : Shape) (v : Datum) (o : List ℕ) → Fits t v → o ≡ per_octets t v → IsPerEncoding t v o
unfolding per_ruling
is_encoding t v o fits e = (fits, ap unpacked e ∙ complete_full (per t v) (per_spelt t v fits).bits ∙ sym (filled_is (per t v)))

-- each encoding of a value is as long as any other
pub same_lengths : (t : Shape) (v : Datum) (o p : List ℕ) → IsPerEncoding t v o → IsPerEncoding t v p → length o ≡ length p
unfolding per_ruling
same_lengths t v o p a b =
    let e : 8 * length o ≡ 8 * length p = sym (length-unpacked o) ∙ ap length (a.1 ∙ sym b.1) ∙ length-unpacked p in
    omega (arith, e)
