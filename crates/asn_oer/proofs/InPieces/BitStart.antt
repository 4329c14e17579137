-- What stands before the octets of a BIT STRING, as it is read.
use Rattle.std.proofs.Common.{◌≡◌, ◌≤◌, ◌<◌, ◌+◌, ◌-◌, ◌*◌, ◌/◌, ℕ, min, Bool, true, false, List, [], ◌∷◌, None, refl, sym, subst, arith}
use Rattle.asn_values.specs.Fits.{FitsLength}
use Rattle.asn_values.specs.Profile.{is_fixed_size}
use Rattle.asn_values.specs.Shape.{SizeRange}
use Rattle.asn_bits.specs.Numbers.{octet_count}
use Rattle.asn_bits.specs.Sets.{Between, InDigits}
use Rattle.asn_bits.proofs.Octets.{octet_count_below}
use Rattle.asn_rules.specs.Chunks.{Chunk}
use Rattle.asn_rules.specs.Fields.{OctetLength, octet_fields}
use Rattle.asn_rules.specs.Filled.{filled_octets}
use Rattle.asn_rules.specs.Forks.{Same}
use Rattle.asn_rules.specs.Languages.{Spells, Then, Nothing, Plain}
use Rattle.asn_rules.specs.NumberSets.{Admits}
use Rattle.asn_rules.specs.OctetReading.{OctetsIn}
use Rattle.asn_rules.specs.OctetStrings.{BitsLength, UnusedBits}
use Rattle.asn_rules.specs.declared.number_reader.NumberSet.{NumberSet}
use Rattle.asn_rules.proofs.Languages.Forks.{same_flip}
use Rattle.asn_rules.proofs.Languages.Leads.{LeadsStops, Leads, leads_on, leads_map, leads_same, leads_second, stops_on, stops_first}
use Rattle.asn_rules.proofs.Languages.Parts.{map_spells, nothing_spells}
use Rattle.asn_rules.proofs.Languages.Spellings.{same_after, same_spelled}
use Rattle.asn_rules.proofs.Numbers.OctetLengths.{length_spelled, length_lawful}
use Rattle.asn_rules.proofs.Octets.BitStrings.{short}
use Rattle.asn_rules.proofs.Octets.OctetFields.{octet_fields_part}
use Rattle.asn_walk.specs.Ahead.{Ahead, items}
use Rattle.asn_walk.specs.Sizes.{AreCounts}
use Rattle.asn_walk.proofs.Counts.{counts_there, counts_back}
use Rattle.asn_oer.specs.SingleItems.{InFront, unused_first, AfterUnused, BitsStart}
use Rattle.asn_oer.proofs.InPieces.BitItems.{some_unused}

-- by whether the size is fixed
abbrev start_at : SizeRange → Bool → List ℕ × Ahead → List Chunk → Type 0
start_at s t = elim t [ true ↦ InFront (Nothing (filled_octets s.low)) | false ↦ AfterUnused (FitsLength s) ]

-- nothing stands before those of a fixed size
pub fixed_start : (s : SizeRange) (us : List ℕ) → is_fixed_size s ≡ true → Spells octet_fields (BitsStart s) ([], items (filled_octets s.low)) us us
fixed_start s us e =
    subst (λ (t : Bool). Spells octet_fields (start_at s t) ([], items (filled_octets s.low)) us us) (sym e)
    (map_spells (map_spells (nothing_spells octet_fields (filled_octets s.low) us)))

module _ (s : SizeRange) (t : NumberSet) (are : AreCounts s t) (e : is_fixed_size s ≡ false) where
  abbrev S : ℕ → Type 0
  S = FitsLength s

  abbrev Lengths : ℕ → List Chunk → Type 0
  Lengths = OctetLength (Between (1 + (t.low + 7) / 8) (1 + (t.high + 7) / 8))

  -- how many bits may be unused
  abbrev pub unused_of : ℕ → NumberSet
  unused_of l = record { low = 8 * (l - 1) - t.high; high = min (8 * (l - 1) - t.low) 7; excluded = None }

  ordered : t.low ≤ t.high
  ordered = are.some.1

  few : t.high ≤ 268435455
  few = (counts_there s t are t.high (ordered, omega arith)).0

  -- ---- the same sets

  length_there : (l : ℕ) → Between (1 + (t.low + 7) / 8) (1 + (t.high + 7) / 8) l → BitsLength S l
  length_there l h = record {
    count = min (8 * (l - 1)) t.high;
    member = counts_there s t are (min (8 * (l - 1)) t.high) (omega (arith, h.0, ordered), omega arith);
    same = omega (arith, h.0, h.1);
  }

  length_back : (l : ℕ) → BitsLength S l → Between (1 + (t.low + 7) / 8) (1 + (t.high + 7) / 8) l
  length_back l h =
      let b = counts_back s t are h.count h.member in
      (omega (arith, h.same, b.0), omega (arith, h.same, b.1))

  length_small : (l : ℕ) → Between (1 + (t.low + 7) / 8) (1 + (t.high + 7) / 8) l → octet_count l < 128
  length_small l h = (let c : octet_count l ≤ 4 = octet_count_below l 4 (omega arith) (omega (arith, h.1, few)) in omega (arith, c))

  lengths_same : Same Lengths (OctetLength (BitsLength S))
  lengths_same =
      same_after (length_spelled (Between (1 + (t.low + 7) / 8) (1 + (t.high + 7) / 8)) length_small)
      (same_after (same_spelled length_there length_back (λ l h. refl)) (same_flip (length_spelled (BitsLength S) (short S (λ n h. h.0)))))

  unused_there : (l u : ℕ) → Between (1 + (t.low + 7) / 8) (1 + (t.high + 7) / 8) l → Admits (unused_of l) u → UnusedBits S l u
  unused_there l u w h =
      let a = w.0 in
      let c = h.0 in
      let d = h.1 in
      record {
        few = omega (arith, d);
        left = omega (arith, d);
        member = counts_there s t are (8 * (l - 1) - u) (omega (arith, a, d), omega (arith, c));
      }

  unused_back : (l u : ℕ) → UnusedBits S l u → Admits (unused_of l) u
  unused_back l u h =
      let b = counts_back s t are (8 * (l - 1) - u) h.member in
      (omega (arith, b.1, h.left), omega (arith, b.0, h.few, h.left), tt)

  unused_same : (l : ℕ) → Between (1 + (t.low + 7) / 8) (1 + (t.high + 7) / 8) l → Same (OctetsIn 1 (unused_of l)) (Plain (InDigits 256 1 (UnusedBits S l)))
  unused_same l w = record {
    to = λ v cs h. record { units = h.units; spelt = record { digits = h.spelt.digits; member = unused_there l v w h.spelt.member }; same = h.same };
    from = λ v cs h. record { units = h.units; spelt = record { digits = h.spelt.digits; member = unused_back l v h.spelt.member }; same = h.same };
  }

  -- ---- how they are read

  abbrev Unused : ℕ → ℕ → List Chunk → Type 0
  Unused l = Plain (InDigits 256 1 (UnusedBits S l))

  whole : (us : List ℕ) → Leads octet_fields (Then (OctetLength (BitsLength S)) Unused) us unused_first (BitsStart s) us
  whole us = subst (λ (b : Bool). Leads octet_fields (Then (OctetLength (BitsLength S)) Unused) us unused_first (start_at s b) us) (sym e) (leads_map octet_fields unused_first (Then (OctetLength (BitsLength S)) Unused) us)

  -- the length stops
  pub length_stops : (us : List ℕ) → LeadsStops octet_fields Lengths us (BitsStart s) us
  length_stops us = stops_on (leads_same octet_fields us lengths_same).stops (stops_on (stops_first octet_fields us (some_unused S (λ n h. h.0))) (whole us).stops)

  -- the number of unused bits after it
  pub unused_leads : (l : ℕ) (us r : List ℕ) → Between (1 + (t.low + 7) / 8) (1 + (t.high + 7) / 8) l → Spells octet_fields Lengths l us r → Leads octet_fields (OctetsIn 1 (unused_of l)) r (λ u. (u ∷ [], items (l - 1))) (BitsStart s) us
  unused_leads l us r w h =
      leads_on (leads_same octet_fields r (unused_same l w))
      (leads_on (leads_second {M = Unused} octet_fields_part (length_lawful (BitsLength S)) ((leads_same octet_fields us lengths_same).done l r h)) (whole us))

  -- what the numbers are good for
  pub length_some : (l : ℕ) → Between (1 + (t.low + 7) / 8) (1 + (t.high + 7) / 8) l → (1 ≤ l) × (t.low ≤ 8 * (l - 1)) × (8 * (l - 1) - t.high ≤ 7) × (l ≤ 33554433)
  length_some l h = (omega (arith, h.0), omega (arith, h.0), omega (arith, h.1), omega (arith, h.1, few))

  pub bounds : (t.low ≤ t.high) × (t.high ≤ 268435455)
  bounds = (ordered, few)
