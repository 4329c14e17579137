-- Where the spellings of each type face each other, the units tell the value, and two spellings are one or part.
use Rattle.std.proofs.Common.{◌≡◌, ℕ, List, [], ◌++◌, inl, inr, subst}
use Rattle.std.proofs.lemmas.List.{append-nil}
use Rattle.asn_values.specs.Datum.{Datum}
use Rattle.asn_values.specs.Shape.{Shape}
use Rattle.asn_values.specs.Profile.{InProfile}
use Rattle.asn_values.specs.Fits.{Fits}
use Rattle.asn_bits.proofs.Codes.{IsCode}
use Rattle.asn_rules.specs.Chunks.{Chunk, flat}
use Rattle.asn_rules.specs.Laws.{UnitsTellTheValue}
use Rattle.asn_rules.specs.Parted.{Parted, SpellingsPart}
use Rattle.asn_rules.proofs.Law.Facing.{Facing, IsFacing, not_from_itself, told_by_units, equal_or_parted}

-- the spellings of a type of the profile face each other
abbrev pub SpellingsFace : (List ℕ → List ℕ) → (Shape → Datum → List Chunk) → Type 1
SpellingsFace sp code = (t : Shape) → InProfile t → IsFacing sp (Fits t) (code t)

module _ (sp : List ℕ → List ℕ) where
  -- facing, with nothing after the spellings
  alone : {A : Type 0} (P : A → Type 0) (code : A → List Chunk) → IsFacing sp P code → (x y : A) → P x → P y → Facing sp (x ≡ y) (code x) (code y)
  alone P code h x y p q =
      subst (λ z. Facing sp (x ≡ y) z (code y)) (append-nil (code x)) (subst (λ z. Facing sp (x ≡ y) (code x ++ []) z) (append-nil (code y))
      (h (x ≡ y) x y [] [] p q (λ e. record { told = e })))

  -- the units of facing spellings tell the value and where they end
  pub facing_code : {A : Type 0} (P : A → Type 0) (code : A → List Chunk) → IsFacing sp P code → IsCode P (λ x. flat sp (code x))
  facing_code P code h x y r s p q e = let w = told_by_units sp (x ≡ y) (code x) (code y) r s (alone P code h x y p q).told e in (w.0, w.2)

  -- the law on units
  pub units_tell : (code : Shape → Datum → List Chunk) → SpellingsFace sp code → UnitsTellTheValue (λ t v. flat sp (code t v))
  units_tell code h t v w r s p a b e = facing_code (Fits t) (code t) (h t p) v w r s a b e

  -- the law on chunks
  pub spellings_part : (code : Shape → Datum → List Chunk) → SpellingsFace sp code → SpellingsPart code
  spellings_part code h t v w p a b =
      elim (equal_or_parted sp (v ≡ w) (code t v) (code t w) (alone (Fits t) (code t) (h t p) v w a b).told) [
        | inl e ↦ inl e
        | inr parted ↦ inr ((λ e. not_from_itself (code t w) (subst (λ z. Parted (code t z) (code t w)) e parted)), parted)
      ]
