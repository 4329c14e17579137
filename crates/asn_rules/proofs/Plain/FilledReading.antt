-- Two numbers and the zeros that fill up their last octet: where a reader stands, and what it cites at each exit.
use Rattle.std.proofs.Common.{◌≡◌, ◌≤◌, ◌<◌, ◌+◌, ◌-◌, ◌^◌, ◌%◌, ℕ, List, ◌++◌, length, length-append, refl, sym, ap, ◌∙◌, append_assoc, arith}
use Rattle.std.proofs.lemmas.Nat.{pow_pos}
use Rattle.asn_bits.specs.Numbers.{bits, padding}
use Rattle.asn_bits.specs.Sets.{Meets}
use Rattle.asn_bits.proofs.FilledBits.{bits_append, filled_up, filled_up_bits, filled_up_fills}
use Rattle.asn_bits.proofs.Octets.{length-digits}
use Rattle.asn_bits.proofs.Packing.{bits_zero}
use Rattle.asn_bits.proofs.Unions.{set_meets}
use Rattle.asn_bits.proofs.Weights.{are_digits}
use Rattle.asn_rules.specs.Chunks.{Chunk, ones}
use Rattle.asn_rules.specs.Forks.{Same}
use Rattle.asn_rules.specs.Languages.{Spells, Then}
use Rattle.asn_rules.specs.NumberSets.{Admits, NumberIn}
use Rattle.asn_rules.specs.Spellings.{SpelledBy}
use Rattle.asn_rules.proofs.Live.Chunks.{ones-append}
use Rattle.asn_rules.proofs.Languages.Leads.{LeadsStops, Leads, leads_on, leads_map, leads_second, stops_first, stops_on}
use Rattle.asn_rules.proofs.Numbers.Sets.{set_inhabited, set_lawful}
use Rattle.asn_rules.proofs.Languages.Spellings.{same_after, same_map, same_then, set_spelled, then_spelled, map_spelled}
use Rattle.asn_rules.proofs.Languages.Then.{Follows, then_inhabited}
use Rattle.asn_rules.specs.OctetReading.{FilledFields, from_to, numbers_told, FilledBits}
use Rattle.asn_rules.proofs.Octets.OctetFields.{octet_fields_part}
use Rattle.asn_rules.proofs.Octets.Octetwise.{InOctets, same_octets, packed_octets_of}
use Rattle.asn_rules.specs.Fields.{octet_fields}

module _ (k a n low : ℕ) (mark : a < 2 ^ k) (some : low < 2 ^ n) where
  -- how many zeros there are
  abbrev zeros : ℕ
  zeros = (8 - (k + n) % 8) % 8

  abbrev Marks : ℕ → List Chunk → Type 0
  Marks = NumberIn k (from_to 0 a)

  abbrev Numbers : ℕ → List Chunk → Type 0
  Numbers = NumberIn n (from_to low (2 ^ n - 1))

  abbrev Zeros : ℕ → List Chunk → Type 0
  Zeros = NumberIn zeros (from_to 0 0)

  pub some_marks : Meets (λ m. Admits (from_to 0 a) m) 0 k
  some_marks = set_meets 2 k 0 (omega arith, omega arith, tt) (pow_pos k)

  pub some_numbers : Meets (λ m. Admits (from_to low (2 ^ n - 1)) m) 0 n
  some_numbers = set_meets 2 n low (omega arith, omega (arith, some), tt) some

  pub some_zeros : Meets (λ m. Admits (from_to 0 0) m) 0 zeros
  some_zeros = set_meets 2 zeros 0 (omega arith, omega arith, tt) (pow_pos zeros)

  number_follows : Follows Numbers (λ _. Zeros)
  number_follows = record { follow = λ m x h. set_inhabited some_zeros }

  mark_follows : Follows Marks (λ _. Then Numbers (λ _. Zeros))
  mark_follows = record { follow = λ m x h. then_inhabited (set_inhabited some_numbers) number_follows }

  whole : (us : List ℕ) → Leads octet_fields (Then Marks (λ _. Then Numbers (λ _. Zeros))) us numbers_told (FilledBits k a n low) us
  whole us = leads_map octet_fields numbers_told (Then Marks (λ _. Then Numbers (λ _. Zeros))) us

  pub stops_at_mark : (us : List ℕ) → LeadsStops octet_fields Marks us (FilledBits k a n low) us
  stops_at_mark us = stops_on (stops_first octet_fields us mark_follows) (whole us).stops

  after_mark : (e : ℕ) (us r : List ℕ) → Spells octet_fields Marks e us r → Leads octet_fields (Then Numbers (λ _. Zeros)) r (λ p. numbers_told (e, p)) (FilledBits k a n low) us
  after_mark e us r h = leads_on (leads_second {M = λ _. Then Numbers (λ _. Zeros)} octet_fields_part (set_lawful 2 k (λ m. Admits (from_to 0 a) m)) h) (whole us)

  pub stops_at_number : (e : ℕ) (us r : List ℕ) → Spells octet_fields Marks e us r → LeadsStops octet_fields Numbers r (FilledBits k a n low) us
  stops_at_number e us r h = stops_on (stops_first octet_fields r number_follows) (after_mark e us r h).stops

  pub zeros_lead : (e m : ℕ) (us r s : List ℕ) → Spells octet_fields Marks e us r → Spells octet_fields Numbers m r s → Leads octet_fields Zeros s (λ z. (e, m)) (FilledBits k a n low) us
  zeros_lead e m us r s h g = leads_on (leads_second {M = λ _. Zeros} octet_fields_part (set_lawful 2 n (λ i. Admits (from_to low (2 ^ n - 1)) i)) g) (after_mark e us r h)

  -- ---- as octets

  abbrev Good : ℕ × ℕ → Type 0
  Good p = (p.0 ≤ a) × (low ≤ p.1) × (p.1 < 2 ^ n)

  abbrev front : ℕ × ℕ → List ℕ
  front p = bits k p.0 ++ bits n p.1

  zeros_are : (p : ℕ × ℕ) → padding (length (front p)) ≡ bits zeros 0
  zeros_are p =
      let l : length (front p) ≡ k + n = length-append (bits k p.0) (bits n p.1) ∙ omega (arith, length-digits 2 k p.0, length-digits 2 n p.1) in
      ap padding l ∙ sym (bits_zero zeros)

  bits_spelled : Same (FilledBits k a n low) (SpelledBy Good (λ p. ones (filled_up (front p))))
  bits_spelled =
      same_after
      (same_map (same_after (same_then (set_spelled k (λ m. Admits (from_to 0 a) m) (λ m h. omega (arith, h.1, mark))) (λ _. same_after (same_then (set_spelled n (λ m. Admits (from_to low (2 ^ n - 1)) m) (λ m h. omega (arith, h.1, pow_pos n))) (λ _. set_spelled zeros (λ m. Admits (from_to 0 0) m) (λ m h. omega (arith, h.1, pow_pos zeros)))) then_spelled)) then_spelled))
      (map_spelled there back)
    where
      there : (p : ℕ × (ℕ × ℕ)) → Admits (from_to 0 a) p.0 × (Admits (from_to low (2 ^ n - 1)) p.1.0 × Admits (from_to 0 0) p.1.1)
          → Good (numbers_told p) × (ones (bits k p.0) ++ (ones (bits n p.1.0) ++ ones (bits zeros p.1.1)) ≡ ones (filled_up (front (numbers_told p))))
      there p h =
          let none : p.1.1 ≡ 0 = omega (arith, h.1.1.1) in
          let f = front (numbers_told p) in (
            (h.0.1, h.1.0.0, omega (arith, h.1.0.1, pow_pos n)),
            ap (λ (c : List Chunk). ones (bits k p.0) ++ c) (sym (ones-append (bits n p.1.0) (bits zeros p.1.1))) ∙ sym (ones-append (bits k p.0) (bits n p.1.0 ++ bits zeros p.1.1))
                ∙ ap ones (sym (append_assoc (bits k p.0) (bits n p.1.0) (bits zeros p.1.1)) ∙ ap (λ (i : ℕ). f ++ bits zeros i) none ∙ ap (λ (l : List ℕ). f ++ l) (sym (zeros_are (numbers_told p)))),
          )

      back : (p : ℕ × ℕ) → Good p → (q : ℕ × (ℕ × ℕ)) × (Admits (from_to 0 a) q.0 × (Admits (from_to low (2 ^ n - 1)) q.1.0 × Admits (from_to 0 0) q.1.1)) × (p ≡ numbers_told q)
      back p h = ((p.0, (p.1, 0)), ((omega arith, h.0, tt), ((h.1, omega (arith, h.2), tt), (omega arith, omega arith, tt))), refl)

  pub filled_in_octets : InOctets (FilledBits k a n low) (FilledFields k a n low)
  filled_in_octets =
      same_octets bits_spelled
      (packed_octets_of (λ p. filled_up (front p)) (λ p h. (filled_up_bits (front p) (bits_append (bits k p.0) (bits n p.1) (are_digits 2 k p.0 (omega arith)) (are_digits 2 n p.1 (omega arith))), filled_up_fills (front p))))
      (record { to = λ v cs h. h; from = λ v cs h. h })
