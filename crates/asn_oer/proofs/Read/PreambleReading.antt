-- Preambles and presence bitmaps of additions, as they are read.
use Rattle.std.proofs.Common.{◌≡◌, ◌≤◌, ◌<◌, ◌^◌, ℕ, zero, suc, Bool, true, false, nat_lt, List, [], ◌∷◌, ◌++◌, length, Option, None, Some, is_some, refl, sym, ap, ◌∙◌, arith, append_assoc}
use Rattle.std.proofs.lemmas.Bool.{true≢false}
use Rattle.asn_bits.specs.Numbers.{digits, bits, octet_count, padding}
use Rattle.asn_bits.specs.Sets.{Between}
use Rattle.asn_bits.specs.Lengths.{octet_length}
use Rattle.asn_bits.proofs.FilledBits.{length-padding}
use Rattle.asn_bits.proofs.Octets.{length-digits, octet_count_below}
use Rattle.asn_bits.proofs.Unions.{set_meets}
use Rattle.asn_bits.proofs.Widths.{lt-two_pow}
use Rattle.asn_rules.specs.Chunks.{Chunk, ones}
use Rattle.asn_rules.specs.Components.{extension_bit}
use Rattle.asn_rules.specs.Fields.{OctetLength}
use Rattle.asn_rules.specs.Forks.{Same}
use Rattle.asn_rules.specs.Languages.{Spells, Then, Map}
use Rattle.asn_rules.specs.NumberSets.{Admits}
use Rattle.asn_rules.proofs.Live.Chunks.{ones-append}
use Rattle.asn_rules.proofs.Languages.Leads.{LeadsStops, Leads, leads_on, leads_map, leads_same, leads_second, stops_first, stops_on}
use Rattle.asn_bits.proofs.LengthsInOctets.{one_is}
use Rattle.asn_rules.proofs.Numbers.OctetLengths.{length_spelled, length_lawful}
use Rattle.asn_rules.proofs.Numbers.Sets.{set_inhabited, set_lawful}
use Rattle.asn_rules.proofs.Languages.Spellings.{same_after, same_map, same_then, digits_spelled, then_spelled, map_spelled, spelled_inhabited}
use Rattle.asn_rules.proofs.Languages.Then.{Follows, then_inhabited}
use Rattle.asn_rules.specs.Filled.{filled_bits, filled_octets, unused_bits}
use Rattle.asn_rules.specs.OctetReading.{OctetsIn, from_to, FilledFields}
use Rattle.asn_rules.proofs.Octets.OctetFields.{octet_fields_part}
use Rattle.asn_walk.specs.Coding.{GoodPreamble, PreambleOf, AdditionBitmapOf}
use Rattle.asn_oer.specs.Oer.{oer_fields, variable_bits}
use Rattle.asn_oer.specs.Walk.{oer_coding, mark_of}
use Rattle.asn_oer.proofs.Types.FilledLanguages.{length-filled_bits}

-- ---- the preamble

-- the extension bit and the presence bitmap
abbrev pub preamble_told : ℕ × ℕ → Bool × ℕ
preamble_told p = (nat_lt 0 p.0, p.1)

-- the bits of the extension bit
front_is : (more : Option ℕ) (e : ℕ) → e ≤ (mark_of more).1 → bits (mark_of more).0 e ≡ extension_bit (is_some more) (nat_lt 0 e)
front_is None e h = refl
front_is (Some zero) zero h = refl
front_is (Some zero) (suc e) h = absurd (omega (arith, h))
front_is (Some (suc k)) zero h = refl
front_is (Some (suc k)) (suc zero) h = refl
front_is (Some (suc k)) (suc (suc e)) h = absurd (omega (arith, h))

pub mark_fits : (more : Option ℕ) → ((mark_of more).0 ≤ 1) × ((mark_of more).1 < 2 ^ (mark_of more).0)
mark_fits None = (omega arith, omega arith)
mark_fits (Some zero) = (omega arith, omega arith)
mark_fits (Some (suc k)) = (omega arith, omega arith)

preamble_spelled : (n : ℕ) (more : Option ℕ) → Same (Map preamble_told (FilledFields (mark_of more).0 (mark_of more).1 n 0)) (PreambleOf oer_coding n more)
unfolding oer_coding
preamble_spelled n more = map_spelled (λ p h. (good more p.0 p.1 h.0 h.2, ap (λ (l : List ℕ). ones (filled_bits (l ++ bits n p.1))) (front_is more p.0 h.0))) (back more)
  where
    good : (more : Option ℕ) (e m : ℕ) → e ≤ (mark_of more).1 → m < 2 ^ n → GoodPreamble n more (nat_lt 0 e, m)
    good None zero m h l = (l, λ t. absurd (true≢false (sym t)))
    good None (suc e) m h l = absurd (omega (arith, h))
    good (Some zero) zero m h l = (l, λ t. absurd (true≢false (sym t)))
    good (Some zero) (suc e) m h l = absurd (omega (arith, h))
    good (Some (suc k)) e m h l = (l, λ t. tt)

    back : (more : Option ℕ) (p : Bool × ℕ) → GoodPreamble n more p → (q : ℕ × ℕ) × ((q.0 ≤ (mark_of more).1) × (0 ≤ q.1) × (q.1 < 2 ^ n)) × (p ≡ preamble_told q)
    back more (false, m) h = ((0, m), (omega arith, omega arith, h.0), refl)
    back None (true, m) h = absurd (h.1 refl)
    back (Some zero) (true, m) h = absurd (h.1 refl)
    back (Some (suc k)) (true, m) h = ((1, m), (omega arith, omega arith, h.0), refl)

pub preamble_leads : (n : ℕ) (more : Option ℕ) (us : List ℕ) → Leads oer_fields (FilledFields (mark_of more).0 (mark_of more).1 n 0) us preamble_told (PreambleOf oer_coding n more) us
preamble_leads n more us =
    leads_on (leads_map oer_fields preamble_told (FilledFields (mark_of more).0 (mark_of more).1 n 0) us) (leads_same oer_fields us (preamble_spelled n more))

-- ---- the presence bitmap of additions

-- what stands before the bits
abbrev pub bitmap_front : ℕ → List ℕ
bitmap_front n = octet_length (suc (filled_octets n)) ++ length (padding n) ∷ []

pub bitmap_is : (n m : ℕ) → variable_bits (bits n m) ≡ bitmap_front n ++ filled_bits (bits n m)
bitmap_is n m =
    ap (λ (l : ℕ). octet_length (suc l) ++ length (padding (length (bits n m))) ∷ filled_bits (bits n m)) (length-filled_bits n m)
    ∙ ap (λ (l : ℕ). octet_length (suc (filled_octets n)) ++ length (padding l) ∷ filled_bits (bits n m)) (length-digits 2 n m)
    ∙ sym (append_assoc (octet_length (suc (filled_octets n))) (length (padding n) ∷ []) (filled_bits (bits n m)))

module _ (n l : ℕ) (some : 0 < n) (few : n ≤ 64) (is : l ≡ suc (filled_octets n)) where
  abbrev Lengths : ℕ → List Chunk → Type 0
  Lengths = OctetLength (Between l l)

  abbrev Unused : ℕ → List Chunk → Type 0
  Unused = OctetsIn 1 (from_to (unused_bits n) (unused_bits n))

  abbrev Presences : ℕ × ℕ → List Chunk → Type 0
  Presences = FilledFields 0 0 n 1

  abbrev told : ℕ × (ℕ × (ℕ × ℕ)) → ℕ
  told p = p.1.1.1

  pub two : 1 < 2 ^ n
  two = omega (arith, some, lt-two_pow n)

  unused_follows : Follows Unused (λ _. Presences)
  unused_follows = record { follow = λ u x h. spelled_inhabited (0, 1) (omega arith, omega arith, two) }

  length_follows : Follows Lengths (λ _. Then Unused (λ _. Presences))
  length_follows = record { follow = λ u x h. then_inhabited (set_inhabited (set_meets 256 1 (unused_bits n) (omega arith, omega arith, tt) (omega arith))) unused_follows }

  bitmap_spelled : Same (Map told (Then Lengths (λ _. Then Unused (λ _. Presences)))) (AdditionBitmapOf oer_coding n)
  unfolding oer_coding
  bitmap_spelled =
      same_after
      (same_map (same_after (same_then (length_spelled (Between l l) short) (λ _. same_after (same_then (digits_spelled 256 1 (λ u. Admits (from_to (unused_bits n) (unused_bits n)) u) (λ u h. omega (arith, h.1))) (λ _. record { to = λ v cs h. h; from = λ v cs h. h })) then_spelled)) then_spelled))
      (map_spelled there back)
    where
      short : (i : ℕ) → Between l l i → octet_count i < 128
      short i h = (let c : octet_count i ≤ 1 = octet_count_below i 1 (omega arith) (omega (arith, h.1, is, few)) in omega (arith, c))

      there : (p : ℕ × (ℕ × (ℕ × ℕ))) → Between l l p.0 × (Admits (from_to (unused_bits n) (unused_bits n)) p.1.0 × ((p.1.1.0 ≤ 0) × (1 ≤ p.1.1.1) × (p.1.1.1 < 2 ^ n)))
          → ((0 < told p) × (told p < 2 ^ n)) × (ones (octet_length p.0) ++ (ones (digits 256 1 p.1.0) ++ ones (filled_bits (bits 0 p.1.1.0 ++ bits n p.1.1.1))) ≡ ones (variable_bits (bits n (told p))))
      there p h =
          let m = told p in
          let u : p.1.0 ≡ length (padding n) = omega (arith, h.1.0.0, h.1.0.1, length-padding n) in
          let first : digits 256 1 p.1.0 ≡ length (padding n) ∷ [] = one_is p.1.0 (omega (arith, h.1.0.1)) ∙ ap (λ (i : ℕ). i ∷ []) u in
          let count : p.0 ≡ suc (filled_octets n) = omega (arith, h.0.0, h.0.1, is) in (
            (omega (arith, h.1.1.1), h.1.1.2),
            ap (λ (i : ℕ). ones (octet_length i) ++ (ones (digits 256 1 p.1.0) ++ ones (filled_bits (bits n m)))) count
                ∙ ap (λ (f : List ℕ). ones (octet_length (suc (filled_octets n))) ++ (ones f ++ ones (filled_bits (bits n m)))) first
                ∙ sym (ones-append (octet_length (suc (filled_octets n))) (length (padding n) ∷ filled_bits (bits n m)))
                ∙ ap ones (sym (append_assoc (octet_length (suc (filled_octets n))) (length (padding n) ∷ []) (filled_bits (bits n m))) ∙ sym (bitmap_is n m)),
          )

      back : (m : ℕ) → (0 < m) × (m < 2 ^ n) → (p : ℕ × (ℕ × (ℕ × ℕ))) × (Between l l p.0 × (Admits (from_to (unused_bits n) (unused_bits n)) p.1.0 × ((p.1.1.0 ≤ 0) × (1 ≤ p.1.1.1) × (p.1.1.1 < 2 ^ n)))) × (m ≡ told p)
      back m h = ((l, (unused_bits n, (0, m))), ((omega arith, omega arith), ((omega arith, omega arith, tt), (omega arith, omega (arith, h.0), h.1))), refl)

  whole : (us : List ℕ) → Leads oer_fields (Then Lengths (λ _. Then Unused (λ _. Presences))) us told (AdditionBitmapOf oer_coding n) us
  whole us = leads_on (leads_map oer_fields told (Then Lengths (λ _. Then Unused (λ _. Presences))) us) (leads_same oer_fields us bitmap_spelled)

  pub stops_at_length : (us : List ℕ) → LeadsStops oer_fields Lengths us (AdditionBitmapOf oer_coding n) us
  stops_at_length us = stops_on (stops_first oer_fields us length_follows) (whole us).stops

  after_length : (i : ℕ) (us r : List ℕ) → Spells oer_fields Lengths i us r → Leads oer_fields (Then Unused (λ _. Presences)) r (λ p. told (i, p)) (AdditionBitmapOf oer_coding n) us
  after_length i us r h = leads_on (leads_second {M = λ _. Then Unused (λ _. Presences)} octet_fields_part (length_lawful (Between l l)) h) (whole us)

  pub stops_at_unused : (i : ℕ) (us r : List ℕ) → Spells oer_fields Lengths i us r → LeadsStops oer_fields Unused r (AdditionBitmapOf oer_coding n) us
  stops_at_unused i us r h = stops_on (stops_first oer_fields r unused_follows) (after_length i us r h).stops

  pub presences_lead : (i u : ℕ) (us r s : List ℕ) → Spells oer_fields Lengths i us r → Spells oer_fields Unused u r s → Leads oer_fields Presences s (λ p. p.1) (AdditionBitmapOf oer_coding n) us
  presences_lead i u us r s h g =
      leads_on (leads_second {M = λ _. Presences} octet_fields_part (set_lawful 256 1 (λ v. Admits (from_to (unused_bits n) (unused_bits n)) v)) g) (after_length i us r h)
