-- Values that are not the DEFAULT of their component.
use Rattle.std.proofs.Common.{◌≡◌, ℕ, Bool, true, false, ◌&&◌, List, Some, None, refl, arith}
use Rattle.std.proofs.lemmas.Bool.{true≢false, ne_eqb}
use Rattle.std.proofs.lemmas.Int.{ints}
use Rattle.std.specs.Bool.{beq}
use Rattle.std.specs.Int.RustNames.{int_le}
use Rattle.std.specs.Prelude.{ℤ}
use Rattle.asn_values.specs.Datum.{Datum, truth, number, item}
use Rattle.asn_bits.proofs.Above.{le_of_test}
use Rattle.asn_values.specs.Shape.{Shape}
use Rattle.asn_rules.specs.Chunks.{Chunk}
use Rattle.asn_rules.specs.Components.{is_default}
use Rattle.asn_rules.specs.Languages.{Spells}
use Rattle.asn_rules.specs.Listed.{Spelt}
use Rattle.asn_rules.specs.Live.{Fielding}

-- a value of the type that is another than the DEFAULT
pub other_spells : (R : Fielding) (code : Shape → Datum → List Chunk) (t : Shape) (v default : Datum) (us vs : List ℕ)
    → is_default default v ≡ false → Spells R (Spelt code None t) v us vs → Spells R (Spelt code (Some default) t) v us vs
other_spells R code t v default us vs e h = record {
  chunks = h.chunks;
  spelt = record { fits = (h.spelt.fits.0, e); same = h.spelt.same };
  contents = h.contents;
  split = h.split;
}

pub other_truth : (d b : Bool) → beq b d ≡ false → is_default (truth d) (truth b) ≡ false
other_truth true true e = absurd (true≢false e)
other_truth true false e = refl
other_truth false true e = refl
other_truth false false e = absurd (true≢false e)

pub other_number : (y z : ℤ) → (z ≡ y → ⊥) → is_default (number y) (number z) ≡ false
other_number y z h = go (int_le y z) (int_le z y) refl refl
  where
    go : (a b : Bool) → int_le y z ≡ a → int_le z y ≡ b → (a && b) ≡ false
    go false b e f = refl
    go true false e f = refl
    go true true e f = absurd (h (omega (arith, ints, le_of_test y z e, le_of_test z y f)))

pub other_item : (p q : ℕ) → (q ≡ p → ⊥) → is_default (item p) (item q) ≡ false
other_item p q h = ne_eqb p q (λ e. h (omega (arith, e)))
