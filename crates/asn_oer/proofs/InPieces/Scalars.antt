-- The spellings of BOOLEAN, NULL, INTEGER and ENUMERATED have at most nine octets.
use Rattle.std.proofs.Common.{◌≡◌, ◌≤◌, ◌<◌, ◌+◌, ◌-◌, ◌^◌, ℕ, ℤ, pos, negsuc, Bool, true, false, List, [], ◌∷◌, ◌++◌, length, Option, Some, None, inl, inr, refl, sym, ap, subst, ◌∙◌, arith}
use Rattle.std.proofs.lemmas.Bool.{true≢false}
use Rattle.asn_values.specs.Datum.{Datum, truth, number, item}
use Rattle.asn_values.specs.Fits.{Fits, FitsNumber}
use Rattle.asn_values.specs.Profile.{InProfile, BadEnumeration, good_default}
use Rattle.asn_values.specs.Shape.{Range, Shape, boolean, null, integer, enumerated, more_labels}
use Rattle.asn_bits.specs.Numbers.{octets, octet_count, least, least_signed, signed_octets, signed_octet_count, magnitude}
use Rattle.asn_bits.proofs.LengthsInOctets.{small_is}
use Rattle.asn_bits.proofs.Octets.{length-digits, octet_count_below, length-least_signed, signed_count_below}
use Rattle.asn_rules.specs.Chunks.{Chunk, ones}
use Rattle.asn_rules.specs.Components.{number_at}
use Rattle.asn_rules.specs.Fields.{spelled}
use Rattle.asn_rules.specs.IntegerSets.{magnitude_of}
use Rattle.asn_rules.specs.Listed.{Spelt}
use Rattle.asn_rules.proofs.Law.Items.{good_items}
use Rattle.asn_walk.proofs.ItemNumbers.{number_is_small}
use Rattle.asn_walk_feed.specs.Feeding.{IsScalar}
use Rattle.asn_oer.specs.Oer.{oer, counted, counted_signed, unsigned_octets, unsigned_in, signed_size, signed_in, ranged, whole_number, item_number, truth_octet}
use Rattle.asn_oer.proofs.Law.Integers.{unsigned_cases, signed_cases}
use Rattle.asn_oer.proofs.Encodings.SpeltLeaves.{in_64_bits, item_short}
use Rattle.asn_oer.proofs.InPieces.Brief.{HasFew}

-- ---- INTEGER

-- a content of at most nine octets with its length
spelled_few : (c : List ℕ) → length c ≤ 9 → length (spelled c) ≤ 10
spelled_few c h =
    let l : length (spelled c) ≡ 1 + length c = ap (λ (os : List ℕ). length (os ++ c)) (small_is (length c) (omega (arith, h))) ∙ omega arith in
    omega (arith, h, l)

magnitude_below : (z : ℤ) (n : ℕ) → magnitude z < n → magnitude_of z < n
magnitude_below (pos k) n h = h
magnitude_below (negsuc k) n h = omega arith

counted_few : (z : ℤ) → magnitude z < 18446744073709551616 → length (counted z) ≤ 10
counted_few z h =
    let l : magnitude_of z < 18446744073709551616 = magnitude_below z 18446744073709551616 h in
    let c : octet_count (magnitude_of z) ≤ 8 = octet_count_below (magnitude_of z) 8 (omega arith) (omega arith) in
    spelled_few (least (magnitude_of z)) (omega (arith, c, length-digits 256 (octet_count (magnitude_of z)) (magnitude_of z)))

counted_signed_few : (z : ℤ) → magnitude z < 18446744073709551616 → length (counted_signed z) ≤ 10
counted_signed_few z h =
    let c : signed_octet_count z ≤ 9 = signed_count_below z 9 (omega arith) (omega arith) in
    spelled_few (least_signed z) (omega (arith, c, length-least_signed z))

signed_length : (k : ℕ) (z : ℤ) → length (signed_octets k z) ≡ k
signed_length k (pos n) = length-digits 256 k n
signed_length k (negsuc n) = length-digits 256 k (256 ^ k - 1 - n)

unsigned_few : (u z : ℤ) → magnitude z < 18446744073709551616 → length (unsigned_in (unsigned_octets u) z) ≤ 10
unsigned_few u z h =
    elim (unsigned_cases u) [
      | inl k ↦ subst (λ (o : Option ℕ). length (unsigned_in o z) ≤ 10) (sym k.1) (few k.0 k.3 (length-digits 256 k.0 (magnitude_of z)))
      | inr k ↦ subst (λ (o : Option ℕ). length (unsigned_in o z) ≤ 10) (sym k) (counted_few z h)
    ]
  where
    few : (k : ℕ) → k ≤ 8 → length (octets k (magnitude_of z)) ≡ k → length (octets k (magnitude_of z)) ≤ 10
    few k h e = omega (arith, h, e)

signed_few : (l u z : ℤ) → magnitude z < 18446744073709551616 → length (signed_in (signed_size l u) z) ≤ 10
signed_few l u z h =
    elim (signed_cases l u) [
      | inl k ↦ subst (λ (o : Option ℕ). length (signed_in o z) ≤ 10) (sym k.2) (few k.0 k.4 (signed_length k.0 z))
      | inr k ↦ subst (λ (o : Option ℕ). length (signed_in o z) ≤ 10) (sym k) (counted_signed_few z h)
    ]
  where
    few : (k : ℕ) → k ≤ 8 → length (signed_octets k z) ≡ k → length (signed_octets k z) ≤ 10
    few k h e = omega (arith, h, e)

ranged_few : (low high : Option ℤ) (z : ℤ) → magnitude z < 18446744073709551616 → length (ranged low high z) ≤ 10
ranged_few (Some (pos l)) (Some u) z h = unsigned_few u z h
ranged_few (Some (pos l)) None z h = counted_few z h
ranged_few (Some (negsuc l)) (Some u) z h = signed_few (negsuc l) u z h
ranged_few (Some (negsuc l)) None z h = counted_signed_few z h
ranged_few None high z h = counted_signed_few z h

number_few : (b : Range) (z : ℤ) → FitsNumber b z → length (whole_number b z) ≤ 10
number_few b z f = go b.extensible
  where
    inside : magnitude z < 18446744073709551616
    inside = in_64_bits z f.0 f.1

    go : (m : Bool) → length {A = ℕ} (elim m [ true ↦ counted_signed z | false ↦ ranged b.low b.high z ]) ≤ 10
    go true = counted_signed_few z inside
    go false = ranged_few b.low b.high z inside

-- ---- all of them

-- units, at most sixteen, that are these chunks
abbrev Few : List Chunk → Type 0
Few cs = (us : List ℕ) × (cs ≡ ones us) × (length us ≤ 16)

spelling_few : (t : Shape) → InProfile t → IsScalar t → (v : Datum) → Fits t v → Few (oer t v)
spelling_few boolean h s (truth b) f = (truth_octet b ∷ [], refl, omega arith)
spelling_few boolean h s _ f = absurd f
spelling_few null h s v f = ([], refl, omega arith)
spelling_few (integer b) h s (number z) f = (whole_number b z, refl, omega (arith, number_few b z f))
spelling_few (integer b) h s _ f = absurd f
spelling_few (enumerated root more) h s (item p) f =
    let z = number_at (root ++ more_labels more) p in
    let i = item_short z (number_is_small (root ++ more_labels more) p (good_items root more (h BadEnumeration)).bits_32) in
    (item_number z, refl, omega (arith, i.most))
spelling_few (enumerated root more) h s _ f = absurd f
spelling_few _ h s v f = absurd s

pub scalar_few : (e : Option Datum) (t : Shape) → InProfile t → IsScalar t → HasFew 16 (Spelt oer e t)
scalar_few e t h s = record {
  units = λ v cs x.
      let w = spelling_few t h s v x.fits.0 in
      (w.0, x.same ∙ w.1, w.2);
}

-- a type that has a DEFAULT is such
pub default_scalar : (t : Shape) (d : Datum) → good_default t d ≡ true → IsScalar t
default_scalar boolean d h = tt
default_scalar null d h = tt
default_scalar (integer b) d h = tt
default_scalar (enumerated root more) d h = tt
default_scalar _ d h = absurd (true≢false (sym h))
