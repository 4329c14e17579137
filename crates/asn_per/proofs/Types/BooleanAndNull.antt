-- Numbers below a count in bits, truth values in a bit, BOOLEAN and NULL are put together from their parts in PER.
use Rattle.std.proofs.Common.{◌≡◌, ℕ, zero, suc, ◌<◌, Bool, true, false, [], ◌∷◌, refl, sym, subst, arith}
use Rattle.asn_values.specs.Datum.{Datum, truth, nothing}
use Rattle.asn_values.specs.Shape.{boolean, null}
use Rattle.asn_values.specs.Fits.{Fits}
use Rattle.asn_bits.specs.Numbers.{bits, width}
use Rattle.asn_bits.proofs.Widths.{width_fits}
use Rattle.asn_rules.specs.Chunks.{one, ones}
use Rattle.asn_rules.specs.Components.{bit_of}
use Rattle.asn_rules.specs.Forks.{Same}
use Rattle.asn_rules.specs.Spellings.{SpelledBy}
use Rattle.asn_rules.proofs.Languages.Spellings.{same_after, same_map, set_spelled, map_spelled}
use Rattle.asn_per.specs.Per.{per}
use Rattle.asn_per.specs.Kinds.{Values, Below, truth_of, Bit, Booleans, Nulls}

-- ---- numbers below a count

-- in the fewest bits that tell that many values apart
pub below_spelled : (values : ℕ) → Same (Below (width values) values) (SpelledBy (λ n. n < values) (λ n. ones (bits (width values) n)))
below_spelled values = set_spelled (width values) (λ n. n < values) (λ n h. width_fits values n h)

-- ---- truth values

-- a truth value in a bit
pub bit_spelled : Same Bit (SpelledBy (λ b. Unit {0}) (λ b. one (bit_of b) ∷ []))
bit_spelled = same_after (same_map (set_spelled 1 (λ n. n < 2) (λ n h. omega arith))) (map_spelled there back)
  where
    there : (n : ℕ) → n < 2 → Unit {0} × (ones (bits 1 n) ≡ one (bit_of (truth_of n)) ∷ [])
    there zero h = (tt, refl)
    there (suc zero) h = (tt, refl)
    there (suc (suc n)) h = absurd (omega arith)

    back : (b : Bool) → Unit {0} → (n : ℕ) × (n < 2) × (b ≡ truth_of n)
    back true h = (1, omega arith, refl)
    back false h = (0, omega arith, refl)

-- BOOLEAN
pub booleans_compose : Same Booleans (Values boolean)
booleans_compose = same_after (same_map bit_spelled) (map_spelled there back)
  where
    there : (b : Bool) → Unit {0} → Fits boolean (truth b) × (one (bit_of b) ∷ [] ≡ per boolean (truth b))
    there b h = (tt, refl)

    back : (v : Datum) → Fits boolean v → (b : Bool) × Unit {0} × (v ≡ truth b)
    back (truth b) h = (b, tt, refl)
    back _ h = absurd h

-- NULL
pub nulls_compose : Same Nulls (Values null)
nulls_compose = record {
  to = λ v cs h. record { fits = subst (Fits null) (sym h.same) tt; same = h.empty };
  from = λ v cs h. record { same = is v h.fits; empty = h.same };
}
  where
    is : (v : Datum) → Fits null v → v ≡ nothing
    is nothing h = refl
    is _ h = absurd h
