-- Places of refusals, worked out against what is live.
use Rattle.std.proofs.Common.{true, false, [], inl, inr, take, get_or, refl, ap, arith}
use Rattle.std.proofs.lemmas.Bool.{eqb-false, leb-true}
use Rattle.std.proofs.lemmas.Str.{IsUtf8-nil}
use Rattle.asn_values.specs.Datum.{Datum, truth, unicode}
use Rattle.asn_values.specs.Shape.{boolean, utf8_string}
use Rattle.asn_values.specs.Fits.{Fits, max_len}
use Rattle.asn_values.specs.ExampleTypes.{hex}
use Rattle.asn_rules.specs.Chunks.{utf8_field}
use Rattle.asn_rules.specs.Live.{BeginsProperly, IsContent, GoesOn, Live, Place}
use Rattle.asn_rules.proofs.Live.LiveUpTo.{live_up_to}
use Rattle.asn_rules.specs.Fields.{spelled}
use Rattle.asn_oer.specs.Oer.{oer, oer_fields}

-- ---- BOOLEAN, 01: neither FF nor 00

not_a_truth : (v : Datum) → Fits boolean v → GoesOn oer_fields (oer boolean v) (take 1 (hex "01")) → ⊥
not_a_truth (truth true) fit (inl g) = eqb-false 255 1 refl (ap (λ l. get_or l 0 9) g.0.1)
not_a_truth (truth false) fit (inl g) = eqb-false 0 1 refl (ap (λ l. get_or l 0 9) g.0.1)
not_a_truth (truth b) fit (inr h) = h
not_a_truth _ fit g = absurd fit

no_octet_of_a_truth : Place (Live oer_fields oer boolean) (hex "01") 1
no_octet_of_a_truth = (omega arith, (λ l. not_a_truth l.0 l.1 l.2), live_up_to oer_fields oer boolean (truth true) (hex "01") 0 tt refl refl)

-- ---- UTF8String, a length of two and one octet: live whatever the octet is, here one that no text has

live_inside_a_text : Live oer_fields oer utf8_string (hex "02 FF")
live_inside_a_text =
    let short : IsContent oer_fields utf8_field (hex "FF FF") = (omega arith, leb-true 2 max_len refl, (leb-true 256 256 refl, (leb-true 256 256 refl, tt))) in
    let begun : BeginsProperly (hex "02 FF") (spelled (hex "FF FF")) = (255, [], refl) in
    (unicode [], (leb-true 0 max_len refl, IsUtf8-nil), inr (inl (omega arith, refl, (hex "FF FF", short, begun))))
