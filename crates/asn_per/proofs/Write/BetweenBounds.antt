-- The bits of an integer between two bounds, as a writer puts them.
use Rattle.std.proofs.Common.{◌≡◌, ◌++◌, suc, ℤ, ◌≤ℤ◌, Bool, true, false, refl, sym}
use Rattle.asn_values.specs.Shape.{integer}
use Rattle.asn_values.specs.Datum.{number}
use Rattle.asn_values.specs.Profile.{InProfile}
use Rattle.asn_bits.specs.Numbers.{above}
use Rattle.asn_rules.specs.Components.{extension_bit}
use Rattle.asn_plan.proofs.Bounds.{inside}
use Rattle.asn_per.specs.Kinds.{between}
use Rattle.asn_per.specs.Laws.{per_bits}
use Rattle.asn_per.specs.Per.{constrained}
use Rattle.asn_per.proofs.Write.Spellings.{bits_of_unmarked, bits_of_inside}

module _ (low high z : ℤ) (m : Bool) (good : InProfile (integer (between low high m))) (least : low ≤ℤ z) (most : z ≤ℤ high) where
  -- how far it lies above the low bound, in bits
  pub bits_between : extension_bit m false ++ constrained (suc (above low high)) (above low z) ≡ per_bits (integer (between low high m)) (number z)
  bits_between = go m refl
    where
      go : (b : Bool) → b ≡ m → extension_bit b false ++ constrained (suc (above low high)) (above low z) ≡ per_bits (integer (between low high m)) (number z)
      go false e = sym (bits_of_unmarked (between low high m) z (sym e))
      go true e = sym (bits_of_inside (between low high m) z (sym e) (inside low high z m good least most))
