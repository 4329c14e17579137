-- The number of an item of an ENUMERATED, as the program has it, and its octets in OER.
use Rattle.std.proofs.Common.{◌≡◌, ◌<◌, ◌+◌, ◌&&◌, ℕ, ℤ, pos, true, false, List, [], ◌∷◌, ◌++◌, length, refl, sym, ◌∙◌, ap}
use Rattle.std.proofs.lemmas.Bool.{and_parts}
use Rattle.std.specs.Int.RustNames.{int_le, int_lt}
use lib.IntN.{nat_abs}
use mir.Syntax.{w64}
use mir.Val.{to_z, of_z}
use Rattle.asn_values.specs.Shape.{Label, MoreLabels, enumerated, more_labels}
use Rattle.asn_values.specs.Profile.{InProfile, BadEnumeration}
use Rattle.asn_bits.specs.Numbers.{bits, octets, unpacked, signed_octets, signed_octet_count, least_signed, magnitude}
use Rattle.asn_bits.proofs.Octets.{length-least_signed}
use Rattle.asn_rules.specs.Components.{number_at}
use Rattle.asn_rules.specs.IntegerSets.{magnitude_of}
use Rattle.asn_rules.proofs.Octets.OctetsWritten.{one_octet}
use Rattle.asn_rules.proofs.Plain.IntegerSets.{size_is}
use Rattle.asn_rules.proofs.Law.Items.{good_items}
use Rattle.asn_walk.proofs.ItemNumbers.{near}
use Rattle.asn_walk.proofs.ItemNumbers.{number_is_small}
use Rattle.asn_oer.specs.Oer.{item_number}

-- ---- the number

-- each is a number of 32 bits
pub item_narrow : (root : List Label) (more : MoreLabels) (p : ℕ) → InProfile (enumerated root more) → magnitude (number_at (root ++ more_labels more) p) < 2147483648
item_narrow root more p good = number_is_small (root ++ more_labels more) p (good_items root more (good BadEnumeration)).bits_32

-- and keeps its value
pub item_kept : (root : List Label) (more : MoreLabels) (p : ℕ) → InProfile (enumerated root more) → to_z w64 (of_z w64 (number_at (root ++ more_labels more) p)) ≡ number_at (root ++ more_labels more) p
item_kept root more p good = near (number_at (root ++ more_labels more) p) (item_narrow root more p good)

-- ---- its octets

-- the long form
pub long_form : (z : ℤ) (k r : ℕ) → (int_le (pos 0) z && int_lt z (pos 128)) ≡ false → k ≡ signed_octet_count z → signed_octets k z ≡ octets k r → item_number z ≡ (128 + k) ∷ octets k r
long_form z k r f e o =
    let long : item_number z ≡ (128 + length (least_signed z)) ∷ least_signed z = rw (f, item_number) refl in
    let count : length (least_signed z) ≡ k = length-least_signed z ∙ sym e in
    let number : least_signed z ≡ octets k r = ap (λ (i : ℕ). signed_octets i z) (sym e) ∙ o in
    long ∙ ap (λ (i : ℕ). (128 + i) ∷ least_signed z) count ∙ ap (λ (t : List ℕ). (128 + k) ∷ t) number

-- the short form
pub short_form : (z : ℤ) → (int_le (pos 0) z && int_lt z (pos 128)) ≡ true → bits 8 (nat_abs z) ≡ unpacked (item_number z)
short_form z e =
    let small : item_number z ≡ magnitude_of z ∷ [] = rw (e, item_number) refl in
    let size : nat_abs z ≡ magnitude_of z = size_is z (and_parts (int_le (pos 0) z) (int_lt z (pos 128)) e).0 in
    ap (bits 8) size ∙ sym (one_octet (magnitude_of z)) ∙ ap unpacked (sym small)
