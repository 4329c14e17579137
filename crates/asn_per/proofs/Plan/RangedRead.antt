-- A number between two bounds, by what was worked out of them, by PER.
use Rattle.std.proofs.Common.{◌≡◌, ◌≤◌, ◌++◌, ℕ, suc, pos, ◌+ℤ◌, ◌≤ℤ◌, false, List, None, refl, sym, ap, ◌∙◌, arith}
use Rattle.std.proofs.lemmas.Int.{ints}
use Rattle.asn_values.specs.Datum.{number}
use Rattle.asn_values.specs.Shape.{integer}
use Rattle.asn_bits.specs.Numbers.{above, bits}
use Rattle.asn_bits.specs.Sink.{bit_of}
use Rattle.asn_bits.proofs.Above.{above-add, add_within}
use Rattle.asn_rules.specs.Components.{extension_bit}
use Rattle.asn_rules.specs.Languages.{Spells}
use Rattle.asn_rules.specs.Listed.{Spelt}
use Rattle.asn_rules.proofs.Languages.Parts.{contents-ones}
use Rattle.asn_plan.specs.Bounds.{between}
use Rattle.asn_plan.specs.Ranged.{ranged, IsRanged}
use Rattle.asn_plan.specs.declared.ranged.Ranged.{Ranged}
use Rattle.asn_plan.proofs.Bounds.{within, between_fits}
use Rattle.asn_per.specs.Laws.{per_bits}
use Rattle.asn_per.specs.Per.{per, per_fields, constrained, whole_number}
use Rattle.asn_per.proofs.Write.BetweenBounds.{bits_between}
use Rattle.asn_per.proofs.Write.IndexBits.{root_index_bits}

-- the bits of its offset, after the extension bit 0 where there is a mark, are the first bits of a number of the type
pub number_first : (r : Ranged) (n : ℕ) (us vs : List ℕ) → IsRanged r → n ≤ r.highest → us ≡ bits r.bits n ++ vs
    → Spells per_fields (Spelt per None (ranged r)) (number (r.low +ℤ pos n)) us vs
number_first r n us vs good few split =
    let low = r.low in
    let high = r.high in
    let z = low +ℤ pos n in
    let w = within r good in
    let below : n ≤ above low high = omega (arith, few, good.highest) in
    let least : low ≤ℤ z = omega (arith, ints) in
    let most : z ≤ℤ high = add_within low high n w.1 below in
    let values = suc (above low high) in
    let same : per_bits (integer (between low high r.marked)) (number z) ≡ bits r.bits n =
    sym (bits_between low high z r.marked good.of_profile least most) ∙ ap (λ k. extension_bit r.marked false ++ constrained values k) (above-add low n)
    ∙ root_index_bits values n (omega (arith, below)) r.marked (bit_of r.marked) refl ∙ ap (λ k. bits k n) (sym good.bits) in
    record {
      chunks = per (ranged r) (number z);
      spelt = record { fits = (between_fits low high z r.marked good.of_profile least most, tt); same = refl };
      contents = contents-ones per_fields (whole_number (between low high r.marked) z);
      split = split ∙ ap (λ t. t ++ vs) (sym same);
    }
