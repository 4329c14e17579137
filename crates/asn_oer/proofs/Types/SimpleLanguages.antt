-- BOOLEAN and NULL in OER: which octets their values have.
use Rattle.std.proofs.Common.{◌≡◌, ◌<◌, ◌^◌, ℕ, true, false, [], ◌∷◌, inl, inr, refl, sym, subst, arith}
use Rattle.asn_values.specs.Datum.{Datum, truth, nothing}
use Rattle.asn_values.specs.Shape.{boolean, null}
use Rattle.asn_values.specs.Fits.{Fits}
use Rattle.asn_bits.specs.Numbers.{digits}
use Rattle.asn_rules.specs.Chunks.{ones}
use Rattle.asn_bits.specs.Sets.{Among}
use Rattle.asn_rules.specs.Forks.{Same}
use Rattle.asn_rules.specs.Spellings.{SpelledBy}
use Rattle.asn_rules.proofs.Languages.Spellings.{same_after, same_map, same_spelled, digits_spelled, map_spelled, nothing_spelled}
use Rattle.asn_oer.specs.Oer.{oer}
use Rattle.asn_oer.specs.SimpleTypes.{truth_told, Booleans, Nulls}

-- the octets of the two truth values
abbrev pub Truths : ℕ → Type 0
Truths = Among ((0, 0) ∷ (255, 255) ∷ [])

-- a truth value that the octet stands for, spelt by it
abbrev pub Told : ℕ → Type 0
Told n = Fits boolean (truth_told n) × (ones (digits 256 1 n) ≡ oer boolean (truth_told n))

-- each of the octets has a truth value
pub truth_there : (n : ℕ) → Truths n → Told n
truth_there n (inl h) = let e : 0 ≡ n = omega (arith, h.0, h.1) in subst Told e (tt, refl)
truth_there n (inr (inl h)) = let e : 255 ≡ n = omega (arith, h.0, h.1) in subst Told e (tt, refl)
truth_there n (inr (inr h)) = absurd h

-- each truth value has one of them
pub truth_back : (v : Datum) → Fits boolean v → (n : ℕ) × Truths n × (v ≡ truth_told n)
truth_back (truth false) h = (0, inl (omega arith, omega arith), refl)
truth_back (truth true) h = (255, inr (inl (omega arith, omega arith)), refl)
truth_back _ h = absurd h

-- they are octets
pub truth_below : (n : ℕ) → Truths n → n < 256 ^ 1
truth_below n (inl h) = omega (arith, h.1)
truth_below n (inr (inl h)) = omega (arith, h.1)
truth_below n (inr (inr h)) = absurd h

-- BOOLEAN is an octet of two
pub boolean_language : Same Booleans (SpelledBy (Fits boolean) (oer boolean))
boolean_language = same_after (same_map (digits_spelled 256 1 Truths truth_below)) (map_spelled truth_there truth_back)

-- NULL is nothing
pub null_language : Same Nulls (SpelledBy (Fits null) (oer null))
null_language = same_after (nothing_spelled nothing) (same_spelled there (λ v h. back v h) (λ v h. refl))
  where
    there : (v : Datum) → v ≡ nothing → Fits null v
    there v e = subst (Fits null) (sym e) tt

    back : (v : Datum) → Fits null v → v ≡ nothing
    back nothing h = refl
    back _ h = absurd h
