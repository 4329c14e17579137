-- Octets in a row and after their length, as they are read.
use Rattle.std.proofs.Common.{◌≡◌, ◌≤◌, ◌<◌, ℕ, List, [], ◌++◌, length, length-append, refl, sym, ap, ◌∙◌, subst, arith}
use Rattle.std.specs.List.{AllByRecursion}
use Rattle.asn_bits.specs.Moves.{Taken}
use Rattle.asn_bits.specs.Numbers.{octet_count, packed, unpacked}
use Rattle.asn_bits.specs.Sets.{AreBits, Between}
use Rattle.asn_bits.proofs.Octets.{packed_octets, octet_count_below}
use Rattle.asn_bits.proofs.Splits.{length-unpacked}
use Rattle.asn_rules.specs.Chunks.{open_field}
use Rattle.asn_rules.specs.Fields.{OneOctet, OctetLength, octets_told, OctetsAfterLength, spelled}
use Rattle.asn_rules.specs.Forks.{Same}
use Rattle.asn_rules.specs.Frames.{IsField, Frame}
use Rattle.asn_rules.specs.Languages.{Spells, Short, Then, Row}
use Rattle.asn_rules.proofs.Languages.Forks.{same_flip}
use Rattle.asn_rules.proofs.Languages.Leads.{LeadsStops, Leads, leads_on, leads_map, leads_same, leads_second, stops_first, stops_on}
use Rattle.asn_rules.proofs.Numbers.OctetLengths.{length_lawful, octets_follow, octets_after_length}
use Rattle.asn_rules.proofs.Numbers.OctetRows.{octets_front, octets_few}
use Rattle.asn_rules.proofs.Languages.Spellings.{same_after, plain_spelled}
use Rattle.asn_rules.specs.OctetReading.{AtOctet}
use Rattle.asn_rules.proofs.Octets.Octetwise.{packed_front}
use Rattle.asn_rules.proofs.Octets.OctetFields.{octet_fields_part}
use Rattle.asn_rules.specs.Fields.{octet_fields}

-- there are too few
pub row_short : (n : ℕ) (us : List ℕ) → AreBits us → length (packed us) < n → Short octet_fields (Row OneOctet n) (packed us)
row_short n us b l = octets_few octet_fields_part n (packed us) (packed_octets us b) l

-- octets that were taken
pub row_taken : (n : ℕ) (us vs os : List ℕ) → Taken n us vs [] os → Spells octet_fields (Row OneOctet n) os (packed us) (packed vs)
row_taken n us vs os t =
    let e : os ≡ t.octets = t.added in
    let parts : packed us ≡ os ++ packed vs = ap packed t.taken ∙ packed_front t.octets vs t.each ∙ ap (λ (l : List ℕ). l ++ packed vs) (sym e) in
    subst (λ (l : List ℕ). Spells octet_fields (Row OneOctet n) os l (packed vs)) (sym parts) (octets_front octet_fields n os (packed vs) (ap length e ∙ t.count) (subst (AllByRecursion (λ o. o < 256)) (sym e) t.each))

pub row_whole : (n : ℕ) (us vs os : List ℕ) → AtOctet us → Taken n us vs [] os → AtOctet vs
row_whole n us vs os a t = omega (arith, a, ap length t.taken, length-append (unpacked t.octets) vs, length-unpacked t.octets)

-- ---- after their length

module _ (S : ℕ → Type 0) where
  whole : (us : List ℕ) → Leads octet_fields (Then (OctetLength S) (λ n. Row OneOctet n)) us octets_told (OctetsAfterLength S) us
  whole us = leads_map octet_fields octets_told (Then (OctetLength S) (λ n. Row OneOctet n)) us

  pub stops_at_length : (us : List ℕ) → LeadsStops octet_fields (OctetLength S) us (OctetsAfterLength S) us
  stops_at_length us = stops_on (stops_first octet_fields us (octets_follow S)) (whole us).stops

  pub row_leads : (n : ℕ) (us r : List ℕ) → Spells octet_fields (OctetLength S) n us r → Leads octet_fields (Row OneOctet n) r (λ os. os) (OctetsAfterLength S) us
  row_leads n us r h = leads_on (leads_second {M = λ n. Row OneOctet n} octet_fields_part (length_lawful S) h) (whole us)

-- ---- open fields

open_spelled : Same (OctetsAfterLength (Between 0 268435455)) (Frame octet_fields open_field)
open_spelled = same_after (octets_after_length (Between 0 268435455) few) (same_flip (plain_spelled there back))
  where
    few : (n : ℕ) → Between 0 268435455 n → octet_count n < 128
    few n h = (let l : octet_count n ≤ 4 = octet_count_below n 4 (omega arith) (omega (arith, h.1)) in omega (arith, l))

    there : (c us : List ℕ) → IsField octet_fields open_field c us → (Between 0 268435455 (length c) × AllByRecursion (λ o. o < 256) c) × (us ≡ spelled c)
    there c us h = (((omega arith, h.contents.1), h.contents.2), h.same)

    back : (c : List ℕ) → Between 0 268435455 (length c) × AllByRecursion (λ o. o < 256) c → IsField octet_fields open_field c (spelled c)
    back c h = record { contents = (omega arith, h.0.1, h.1); same = refl }

pub open_leads : (us : List ℕ) → Leads octet_fields (OctetsAfterLength (Between 0 268435455)) us (λ os. os) (Frame octet_fields open_field) us
open_leads us = leads_same octet_fields us open_spelled
