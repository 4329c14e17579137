-- Lengths between two bounds, octet by octet: where their reader stands, and what it cites at each exit.
use Rattle.std.proofs.Common.{◌≡◌, ◌≤◌, ◌<◌, ◌+◌, ◌*◌, ◌/◌, ◌%◌, ◌^◌, ℕ, min, Option, Some, List, [], ◌∷◌, ◌++◌, length, length-append, append_assoc, inl, inr, refl, sym, ap, ◌∙◌, subst, arith}
use Rattle.std.proofs.lemmas.List.{append-nil}
use Rattle.asn_bits.specs.Begun.{StandsFirst}
use Rattle.asn_bits.specs.Lengths.{octet_length}
use Rattle.asn_bits.specs.Numbers.{bits, octets, octet_count, packed, unpacked}
use Rattle.asn_bits.specs.OctetLengths.{BegunOctets, BeginsLength, GoesOn, TakesOctet}
use Rattle.asn_bits.specs.Ranges.{Spanned}
use Rattle.asn_bits.specs.Sets.{Between}
use Rattle.asn_bits.specs.declared.number_field.FieldState.TheVariants as state
use Rattle.asn_bits.proofs.LengthsInOctets.{length_cases, large_is, small_is}
use Rattle.asn_bits.proofs.Octets.{all_octets, length-digits, octet_count_below}
use Rattle.asn_bits.proofs.Splits.{digits-add, digits-mod, unpacked-octets}
use Rattle.asn_bits.proofs.Weights.{bits_only}
use Rattle.asn_rules.specs.Chunks.{ones}
use Rattle.asn_rules.specs.Fields.{OctetLength, octet_fields}
use Rattle.asn_rules.specs.Forks.{Same}
use Rattle.asn_rules.specs.Languages.{IsLive, Refused, Short, Spells}
use Rattle.asn_rules.specs.NumberSets.{Admits}
use Rattle.asn_rules.specs.OctetReading.{AtOctet, from_to}
use Rattle.asn_rules.specs.Spellings.{SpelledBy}
use Rattle.asn_rules.proofs.Octets.OctetFields.{octet_fields_part}
use Rattle.asn_rules.proofs.Numbers.OctetLengths.{length_lawful, length_spelled}
use Rattle.asn_rules.proofs.Octets.Octetwise.{next_octet, no_octet, packed_front}
use Rattle.asn_rules.proofs.Languages.Parts.{front_ones, refused_here}
use Rattle.asn_rules.proofs.Languages.Spellings.{units_front, units_short}

-- some octets of a length have been read, and it goes on
pub record InLength (low high : ℕ) (us : List ℕ) (now : BegunOctets) (rest : List ℕ) : Type 0 where
  pub at_octet : AtOctet rest
  pub so_far : packed us ≡ now.given ++ packed rest
  pub counts : now.counts ≡ (low, Some high) ∷ []
  pub goes : GoesOn (Spanned ((low, Some high) ∷ [])) now.given

-- after an octet whole octets are left
octet_less : (o : ℕ) (rest after : List ℕ) → AtOctet rest → rest ≡ bits 8 o ++ after → AtOctet after
octet_less o rest after a e = omega (arith, a, ap length e, length-append (bits 8 o) after, length-digits 2 8 o)

-- the next octet of what is left
next_of : (o : ℕ) (rest after given us : List ℕ) → o < 256 → packed us ≡ given ++ packed rest → rest ≡ bits 8 o ++ after → packed us ≡ given ++ o ∷ packed after
next_of o rest after given us h so_far e = so_far ∙ ap (λ (r : List ℕ). given ++ r) (ap packed e ∙ next_octet o after h)

-- and after some octets
pub long_whole : (k n : ℕ) (us rest : List ℕ) → AtOctet us → us ≡ bits (8 * k) n ++ rest → AtOctet rest
long_whole k n us rest a e = omega (arith, a, ap length e, length-append (bits (8 * k) n) rest, length-digits 2 (8 * k) n)

module _ (low high : ℕ) (narrow : high < 2 ^ 32) where
  abbrev one_set : List (ℕ × Option ℕ)
  one_set = (low, Some high) ∷ []

  there : (n : ℕ) → Spanned one_set n → Between low high n
  there n (inl h) = h
  there n (inr h) = absurd h

  spelt_so : Same (OctetLength (Between low high)) (SpelledBy (Between low high) (λ n. ones (octet_length n)))
  spelt_so = length_spelled (Between low high) (λ n s. (let w = octet_count_below n 4 (omega arith) (omega (arith, s.1, narrow)) in omega (arith, w)))

  -- the octets of a length, and others after it
  length_done : (n : ℕ) (us rest : List ℕ) → Between low high n → us ≡ octet_length n ++ rest → Spells octet_fields (OctetLength (Between low high)) n us rest
  length_done n us rest s e =
      subst (λ (l : List ℕ). Spells octet_fields (OctetLength (Between low high)) n l rest) (sym e) (units_front octet_length octet_fields spelt_so n s rest)

  length_short : (os : List ℕ) → GoesOn (Spanned one_set) os → Short octet_fields (OctetLength (Between low high)) os
  length_short os g = units_short octet_length octet_fields_part (length_lawful (Between low high)) spelt_so g.count (there g.count g.member) os g.next g.more (sym g.split)

  length_refused : (os : List ℕ) (o : ℕ) (after : List ℕ) → GoesOn (Spanned one_set) os → (BeginsLength (Spanned one_set) (os ++ o ∷ []) → ⊥) → Refused octet_fields (OctetLength (Between low high)) (os ++ o ∷ after) (length after)
  length_refused os o after g none = refused_here octet_fields_part os o after (length_short os g) dead
    where
      dead : IsLive octet_fields (OctetLength (Between low high)) (os ++ o ∷ []) → ⊥
      dead l =
          let w = spelt_so.to l.value l.chunks l.spelt in
          let f = front_ones octet_fields (octet_length l.value) (os ++ o ∷ []) (rw w.same at l.front) in
          none (record { count = l.value; member = inl w.fits; starts = record { more = f.0; split = f.1 } })

  -- ---- in one step

  pub short_taken : (n : ℕ) (us rest : List ℕ) → StandsFirst 8 (λ m. Admits (from_to low (min high 127)) m) n us rest → (us ≡ bits 8 n ++ rest) × (n < 128) × Between low high n
  short_taken n us rest s =
      let w = bits_only 8 n s.number s.spelt.digits in
      let m = s.spelt.member in
      (s.split ∙ ap (λ (l : List ℕ). l ++ rest) w.1, omega (arith, m.1), (m.0, omega (arith, m.1)))

  pub short_whole : (n : ℕ) (us rest : List ℕ) → AtOctet us → StandsFirst 8 (λ m. Admits (from_to low (min high 127)) m) n us rest → AtOctet rest
  short_whole n us rest a s = octet_less n us rest a (short_taken n us rest s).0

  pub short_done : (n : ℕ) (us rest : List ℕ) → StandsFirst 8 (λ m. Admits (from_to low (min high 127)) m) n us rest → Spells octet_fields (OctetLength (Between low high)) n (packed us) (packed rest)
  short_done n us rest s =
      let w = short_taken n us rest s in
      length_done n (packed us) (packed rest) w.2 (ap packed w.0 ∙ next_octet n rest (omega (arith, w.1)) ∙ ap (λ (l : List ℕ). l ++ packed rest) (sym (small_is n w.1)))

  -- the first octet and the k octets after it, which hold n
  pub long_done : (k n all : ℕ) (us rest : List ℕ) → k < 128 → all / 2 ^ (8 * k) ≡ 128 + k → n ≡ all % 2 ^ (8 * k) → 128 ≤ n → octet_count n ≡ k → Between low high n → us ≡ bits (8 * (1 + k)) all ++ rest
      → Spells octet_fields (OctetLength (Between low high)) n (packed us) (packed rest)
  long_done k n all us rest few first last large count member e =
      let both : bits (8 * (1 + k)) all ≡ bits 8 (128 + k) ++ bits (8 * k) n =
      ap (λ (i : ℕ). bits i all) (omega arith) ∙ digits-add 2 8 (8 * k) all
      ∙ ap (λ (i : ℕ). bits 8 i ++ bits (8 * k) all) first ∙ ap (λ (l : List ℕ). bits 8 (128 + k) ++ l) (sym (digits-mod 2 (omega arith) (8 * k) all) ∙ ap (bits (8 * k)) (sym last)) in
      let split : us ≡ bits 8 (128 + k) ++ (unpacked (octets k n) ++ rest) =
      e ∙ ap (λ (l : List ℕ). l ++ rest) both ∙ append_assoc (bits 8 (128 + k)) (bits (8 * k) n) rest
      ∙ ap (λ (l : List ℕ). bits 8 (128 + k) ++ (l ++ rest)) (sym (unpacked-octets k n)) in
      length_done n (packed us) (packed rest) member (
      ap packed split ∙ next_octet (128 + k) (unpacked (octets k n) ++ rest) (omega arith)
      ∙ ap (λ (l : List ℕ). (128 + k) ∷ l) (packed_front (octets k n) rest (all_octets k n))
      ∙ ap (λ (l : List ℕ). l ++ packed rest) (sym (large_is n k large count))
      )

  -- ---- octet by octet

  pub in_length_starts : (us : List ℕ) (now : BegunOctets) → AtOctet us → low ≤ high → now ≡ record { counts = one_set; given = [] } → InLength low high us now us
  in_length_starts us now a h e =
      subst (λ (b : BegunOctets). InLength low high us b us) (sym e) (record { at_octet = a; so_far = refl; counts = refl; goes = some (octet_length low) refl })
    where
      some : (l : List ℕ) → octet_length low ≡ l → GoesOn (Spanned one_set) []
      some (o ∷ t) f = record { count = low; member = inl (omega arith, h); next = o; more = t; split = f }
      some [] f = absurd (elim (length_cases low) [ inl c ↦ omega (arith, ap length (sym c.1 ∙ f)) | inr c ↦ omega (arith, ap length (sym c.1 ∙ f)) ])

  module _ {us rest : List ℕ} {now : BegunOctets} (h : InLength low high us now rest) where
    pub in_length_short : length rest < 8 → Short octet_fields (OctetLength (Between low high)) (packed us)
    in_length_short l =
        let all : packed us ≡ now.given = h.so_far ∙ ap (λ (r : List ℕ). now.given ++ r) (no_octet rest h.at_octet l) ∙ append-nil now.given in
        subst (λ (r : List ℕ). Short octet_fields (OctetLength (Between low high)) r) (sym all) (length_short now.given h.goes)

    module _ {o : ℕ} {after : List ℕ} (octet : o < 256) (split : rest ≡ bits 8 o ++ after) where
      pub in_length_whole : AtOctet after
      in_length_whole = octet_less o rest after h.at_octet split

      pub in_length_refused : (BeginsLength (Spanned now.counts) (now.given ++ o ∷ []) → ⊥) → Refused octet_fields (OctetLength (Between low high)) (packed us) (length (packed after))
      in_length_refused none =
          subst (λ (r : List ℕ). Refused octet_fields (OctetLength (Between low high)) r (length (packed after))) (sym (next_of o rest after now.given us octet h.so_far split))
          (length_refused now.given o (packed after) h.goes (subst (λ (is : List (ℕ × Option ℕ)). BeginsLength (Spanned is) (now.given ++ o ∷ []) → ⊥) h.counts none))

      pub in_length_member : (n : ℕ) → Spanned now.counts n → Between low high n
      in_length_member n s = there n (subst (λ (is : List (ℕ × Option ℕ)). Spanned is n) h.counts s)

      pub in_length_done : (n : ℕ) → Spanned now.counts n × (octet_length n ≡ now.given ++ o ∷ []) → Spells octet_fields (OctetLength (Between low high)) n (packed us) (packed after)
      in_length_done n w =
          length_done n (packed us) (packed after) (in_length_member n w.0) (next_of o rest after now.given us octet h.so_far split ∙ sym (append_assoc now.given (o ∷ []) (packed after)) ∙ ap (λ (l : List ℕ). l ++ packed after) (sym w.1))

      pub in_length_more : (new : BegunOctets) → TakesOctet now o state.Alive new → GoesOn (Spanned now.counts) (now.given ++ o ∷ []) → InLength low high us new after
      in_length_more new t g =
          subst (λ (b : BegunOctets). InLength low high us b after) (sym t) (record {
            at_octet = in_length_whole;
            so_far = next_of o rest after now.given us octet h.so_far split ∙ sym (append_assoc now.given (o ∷ []) (packed after));
            counts = h.counts;
            goes = subst (λ (is : List (ℕ × Option ℕ)). GoesOn (Spanned is) (now.given ++ o ∷ [])) h.counts g;
          })
