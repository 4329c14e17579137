-- Places of refusals, worked out against what is live.
use Rattle.std.proofs.Common.{◌≡◌, ◌≤◌, ◌-◌, ◌/◌, ◌%◌, ◌&&◌, Bool, pos, negsuc, true, false, [], ◌∷◌, inl, inr, take, get_or, refl, sym, ap, arith}
use Rattle.std.proofs.lemmas.Bool.{eqb-false, leb-true, true≢false}
use Rattle.std.proofs.lemmas.Str.{IsUtf8-nil}
use Rattle.std.specs.Int.Signed.{le_z_yes}
use Rattle.std.specs.Int.RustNames.{int_le}
use Rattle.asn_values.specs.Datum.{Datum, truth, nothing, number, unicode}
use Rattle.asn_values.specs.Shape.{boolean, null, integer, utf8_string}
use Rattle.asn_values.specs.Fits.{Fits, max_len}
use Rattle.asn_values.specs.ExampleTypes.{hex, between}
use Rattle.asn_bits.specs.Numbers.{unpacked}
use Rattle.asn_rules.specs.Chunks.{utf8_field}
use Rattle.asn_rules.specs.Live.{BeginsProperly, IsContent, GoesOn, Live, Place}
use Rattle.asn_rules.proofs.Live.LiveUpTo.{live_up_to}
use Rattle.asn_per.specs.Per.{spelled, per_whole, per_fields}

-- ---- NULL, 00000001: the eighth bit is no filling

not_null : (v : Datum) → Fits null v → GoesOn per_fields (per_whole null v) (take 8 (unpacked (hex "01"))) → ⊥
not_null nothing fit (inl g) = eqb-false 0 1 refl (ap (λ l. get_or l 7 9) g.0.1)
not_null nothing fit (inr h) = h
not_null _ fit g = absurd fit

filling_of_null : Place (Live per_fields per_whole null) (unpacked (hex "01")) 8
filling_of_null = (omega arith, (λ l. not_null l.0 l.1 l.2), live_up_to per_fields per_whole null nothing (unpacked (hex "01")) 7 tt refl refl)

-- ---- BOOLEAN, 101: the third bit is no filling

not_a_truth : (v : Datum) → Fits boolean v → GoesOn per_fields (per_whole boolean v) (take 3 (unpacked (hex "A0"))) → ⊥
not_a_truth (truth b) fit (inl g) = eqb-false 0 1 refl (ap (λ l. get_or l 2 9) g.0.1)
not_a_truth (truth b) fit (inr h) = h
not_a_truth _ fit g = absurd fit

filling_of_a_truth : Place (Live per_fields per_whole boolean) (unpacked (hex "A0")) 3
filling_of_a_truth = (omega arith, (λ l. not_a_truth l.0 l.1 l.2), live_up_to per_fields per_whole boolean (truth true) (unpacked (hex "A0")) 2 tt refl refl)

-- ---- INTEGER (0..5), 11: 110 is 6

-- of two tests that hold, the second does
second_holds : (a b : Bool) → (a && b) ≡ true → b ≡ true
second_holds true b both = both
second_holds false b both = absurd (true≢false (sym both))

not_to_five : (v : Datum) → Fits (integer (between (pos 0) (pos 5))) v → GoesOn per_fields (per_whole (integer (between (pos 0) (pos 5))) v) (take 2 (unpacked (hex "C0"))) → ⊥
not_to_five (number (pos n)) fit (inl g) =
    let first : (n - 0) / 4 % 2 ≡ 1 = ap (λ l. get_or l 0 9) g.0.1 in
    let second : (n - 0) / 2 % 2 ≡ 1 = ap (λ l. get_or l 1 9) g.0.1 in
    let most : n ≤ 5 = leb-true n 5 (second_holds (int_le (pos 0) (pos n)) (int_le (pos n) (pos 5)) fit.2) in
    omega arith
not_to_five (number (negsuc n)) fit g = true≢false (sym fit.2)
not_to_five (number (pos n)) fit (inr h) = h
not_to_five _ fit g = absurd fit

six_is_past_five : Place (Live per_fields per_whole (integer (between (pos 0) (pos 5)))) (unpacked (hex "C0")) 2
six_is_past_five = (omega arith, (λ l. not_to_five l.0 l.1 l.2), live_up_to per_fields per_whole (integer (between (pos 0) (pos 5))) (number (pos 5)) (unpacked (hex "C0")) 1 (le_z_yes tt, le_z_yes tt, refl) refl refl)

-- ---- UTF8String, a length of two and one octet: live whatever the octet is, here one that no text has

live_inside_a_text : Live per_fields per_whole utf8_string (unpacked (hex "02 FF"))
live_inside_a_text =
    let short : IsContent per_fields utf8_field (hex "FF FF") = (omega arith, leb-true 2 max_len refl, (leb-true 256 256 refl, (leb-true 256 256 refl, tt))) in
    let begun : BeginsProperly (unpacked (hex "02 FF")) (spelled (hex "FF FF")) = (1, 1 ∷ 1 ∷ 1 ∷ 1 ∷ 1 ∷ 1 ∷ 1 ∷ [], refl) in
    (unicode [], (leb-true 0 max_len refl, IsUtf8-nil), inr (inl (omega arith, refl, (hex "FF FF", short, begun))))
