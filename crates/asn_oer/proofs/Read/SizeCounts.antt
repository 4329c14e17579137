-- The counts that a size leaves, as a set of numbers, and items of such a count.
use Rattle.std.proofs.Common.{◌≡◌, ℕ, Bool, true, false, List, [], ◌++◌, refl, sym, ap, ◌∙◌, subst}
use Rattle.asn_values.specs.Datum.{octet_list}
use Rattle.asn_values.specs.Fits.{FitsLength}
use Rattle.asn_values.specs.Profile.{InProfile, EmptyRange, SizeTooLarge, UselessMark, is_fixed_size}
use Rattle.asn_values.specs.Shape.{SizeRange, bit_string, octet_string}
use Rattle.asn_rules.specs.Chunks.{Chunk}
use Rattle.asn_rules.specs.Fields.{OneOctet, OctetLength, octets_told}
use Rattle.asn_rules.specs.Forks.{Same}
use Rattle.asn_rules.specs.Languages.{Spells, Lawful, Inhabited, Then, Map, Nothing, Row}
use Rattle.asn_rules.specs.declared.number_reader.NumberSet.{NumberSet}
use Rattle.asn_rules.proofs.Languages.Leads.{LeadsStops, Leads, leads_on, leads_map, leads_same, leads_second, stops_first, stops_on}
use Rattle.asn_rules.proofs.Numbers.OctetLengths.{length_lawful}
use Rattle.asn_rules.proofs.Languages.Parts.{nothing_lawful}
use Rattle.asn_rules.proofs.Languages.Rows.{row_inhabited}
use Rattle.asn_rules.proofs.Languages.Spellings.{same_after, same_map}
use Rattle.asn_rules.specs.OctetReading.{CountedIn}
use Rattle.asn_rules.proofs.Octets.CountedOctets.{same_counted}
use Rattle.asn_rules.proofs.Octets.OctetFields.{octet_fields_part}
use Rattle.asn_walk.specs.Sizes.{AreCounts, Count, ReadsSized}
use Rattle.asn_bits.specs.Numbers.{packed}
use Rattle.asn_rules.proofs.Numbers.OctetLengths.{one_octet_inhabited}
use Rattle.asn_walk.specs.Laws.{IsSizeOfProfile}
use Rattle.asn_oer.specs.Constructed.{Quantity}
use Rattle.asn_oer.specs.Oer.{oer_fields}
use Rattle.asn_oer.specs.Reading.{ValuesOf}
use Rattle.asn_oer.specs.Strings.{ItemsAfterLength, Sized}
use Rattle.asn_oer.proofs.Types.LeftOut.{none_left_out}
use Rattle.asn_oer.proofs.Types.StringLanguages.{octet_string_language}

pub quantity_leads : (s : SizeRange) (t : NumberSet) (us : List ℕ) → AreCounts s t → Leads oer_fields (CountedIn t) us (λ n. n) (Quantity (FitsLength s)) us
quantity_leads s t us are = leads_same oer_fields us (same_map (same_counted are.there are.back))

-- ---- how many items there are

-- it tells where it ends
count_lawful : (s : SizeRange) → Lawful (Count s)
count_lawful s = go (is_fixed_size s)
  where
    go : (t : Bool) → Lawful {V = ℕ} (elim t [ true ↦ Nothing s.low | false ↦ OctetLength (FitsLength s) ])
    go true = nothing_lawful s.low
    go false = length_lawful (FitsLength s)

-- ---- items of a size

module _ {L : ℕ → List Chunk → Type 0} (some : Inhabited L) (s : SizeRange) where
  -- after a count that is not spelt
  unspelt : (n : ℕ) → Same (Map octets_told (Then (Nothing n) (λ m. Row L m))) (Row L n)
  unspelt n = record {
    to = λ v cs h.
        let p = h.spelt in
        let e : cs ≡ p.second = p.whole ∙ ap (λ (c : List Chunk). c ++ p.second) p.spelt.empty in
        let row : Row L n h.source.1 p.second = subst (λ (m : ℕ). Row L m h.source.1 p.second) p.spelt.same p.follows in
        subst (λ (w : List ℕ). Row L n w cs) (sym h.seen) (subst (λ (c : List Chunk). Row L n h.source.1 c) (sym e) row);
    from = λ v cs h. record { source = (n, v); spelt = record { first = []; second = cs; spelt = record { same = refl; empty = refl }; follows = h; whole = refl }; seen = refl };
  }

  sized_same : Same (Map octets_told (Then (Count s) (λ n. Row L n))) (Sized s L)
  sized_same = go (is_fixed_size s)
    where
      go : (t : Bool) → Same {V = List ℕ} (Map octets_told (Then (elim t [ true ↦ Nothing s.low | false ↦ OctetLength (FitsLength s) ]) (λ n. Row L n))) (elim t [ true ↦ Row L s.low | false ↦ ItemsAfterLength (FitsLength s) L ])
      go true = unspelt s.low
      go false = record { to = λ v cs h. h; from = λ v cs h. h }

  whole : (us : List ℕ) → Leads oer_fields (Then (Count s) (λ n. Row L n)) us octets_told (Sized s L) us
  whole us = leads_on (leads_map oer_fields octets_told (Then (Count s) (λ n. Row L n)) us) (leads_same oer_fields us sized_same)

  -- the count stops
  pub stops_at_count : (us : List ℕ) → LeadsStops oer_fields (Count s) us (Sized s L) us
  stops_at_count us = stops_on (stops_first oer_fields us (record { follow = λ n x h. row_inhabited some n })) (whole us).stops

  -- the items after it
  pub items_lead : (n : ℕ) (us r : List ℕ) → Spells oer_fields (Count s) n us r → Leads oer_fields (Row L n) r (λ os. os) (Sized s L) us
  items_lead n us r h = leads_on (leads_second {M = λ n. Row L n} octet_fields_part (count_lawful s) h) (whole us)

-- OCTET STRING
pub octets_lead : (s : SizeRange) (us : List ℕ) → InProfile (octet_string s) → Leads oer_fields (Sized s OneOctet) us octet_list (ValuesOf (octet_string s)) us
octets_lead s us good = leads_on (leads_map oer_fields octet_list (Sized s OneOctet) us) (leads_same oer_fields us (same_after (octet_string_language s good) (none_left_out (octet_string s))))

-- the sizes of types of the profile are of the profile
pub octets_size : (s : SizeRange) → InProfile (octet_string s) → IsSizeOfProfile s
octets_size s good = record { ordered = good EmptyRange; small = good SizeTooLarge; useful = good UselessMark }

pub bits_size : (s : SizeRange) → InProfile (bit_string s) → IsSizeOfProfile s
bits_size s good = record { ordered = good EmptyRange; small = good SizeTooLarge; useful = good UselessMark }

-- an OCTET STRING that is read at once
pub octets_at_once : (s : SizeRange) (os us vs : List ℕ) → InProfile (octet_string s) → ReadsSized s os us vs → Spells oer_fields (ValuesOf (octet_string s)) (octet_list os) (packed us) (packed vs)
octets_at_once s os us vs good h =
    (octets_lead s (packed us) good).done os (packed vs) ((items_lead one_octet_inhabited s h.count (packed us) h.between h.told).done os (packed vs) h.octets)
