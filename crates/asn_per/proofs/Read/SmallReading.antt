-- Where the readers of a normally small number stand, and what they cite at each exit.
use Rattle.std.proofs.Common.{◌≡◌, ◌≤◌, ◌<◌, ◌-◌, ℕ, List, [], ◌∷◌, None, ap, ◌∙◌, subst, arith}
use Rattle.asn_bits.specs.Numbers.{octet_count}
use Rattle.asn_bits.specs.Sets.{InSet, Meets}
use Rattle.asn_bits.proofs.Unions.{set_meets}
use Rattle.asn_bits.proofs.Weights.{bits_only}
use Rattle.asn_rules.specs.Counted.{SomeOf, Counted, number_of, Least}
use Rattle.asn_rules.specs.Forks.{Fork, Same}
use Rattle.asn_rules.specs.Languages.{Plain, Short, Spells, Inhabited}
use Rattle.asn_rules.specs.NumberSets.{Admits, up_to}
use Rattle.asn_rules.proofs.Languages.Exits.{leads_zero, leads_one, stops_count}
use Rattle.asn_rules.proofs.Languages.Forks.{fork_short, fork_inhabited_zero}
use Rattle.asn_rules.proofs.Languages.Leads.{Leads, LeadsStops, leads_on, stops_on, leads_map, leads_same}
use Rattle.asn_rules.proofs.Numbers.CountedCodes.{eight_bits}
use Rattle.asn_rules.proofs.Numbers.Sets.{set_inhabited}
use Rattle.asn_rules.proofs.Plain.NumberSets.{same_set, counted_leads}
use Rattle.asn_per.specs.Kinds.{Below, SmallBelow, LargeBelow, of_either}
use Rattle.asn_per.specs.Per.{per_fields}
use Rattle.asn_per.specs.Reading.{only}
use Rattle.asn_per.proofs.Read.IndexReading.{below_leads}
use Rattle.asn_per.proofs.Types.SmallNumbers.{IsLarge, one_octet, all_short}

-- ---- where all have the short form

pub short_leads : (count : ℕ) → 0 < count → count ≤ 64 → (us : List ℕ) → Leads per_fields (Plain (InSet 7 (λ n. Admits (up_to (count - 1) None) n))) us (λ n. n) (SmallBelow count) us
short_leads count some few us = leads_on (below_leads count some 7 us) (leads_same per_fields us (all_short count few))

-- ---- where some have the long form

module _ (count : ℕ) (some : 64 < count) (few : count ≤ 256) where
  -- the numbers of 6 bits are all below the count
  six_bits : Same (Plain (InSet 6 (λ n. Admits (up_to 63 None) n))) (Below 6 count)
  six_bits = record {
    to = λ v cs h. record { units = h.units; spelt = record { digits = h.spelt.digits; member = omega (arith, some, h.spelt.member.1) }; same = h.same };
    from = λ v cs h. record { units = h.units; spelt = record { digits = h.spelt.digits; member = (omega arith, omega (arith, (bits_only 6 v h.units h.spelt.digits).0), tt) }; same = h.same };
  }

  some_short : Inhabited (Below 6 count)
  some_short = set_inhabited (set_meets 2 6 0 (omega (arith, some)) (omega arith))

  -- no bit is left
  pub form_wanted : Short per_fields (SmallBelow count) []
  form_wanted = (leads_map per_fields of_either (Fork (Below 6 count) (LargeBelow count)) []).stops.short (fork_short (fork_inhabited_zero some_short))

  -- after a 0
  pub after_zero : (us after : List ℕ) (b : ℕ) → us ≡ b ∷ after → b ≡ 0 → Leads per_fields (Plain (InSet 6 (λ n. Admits (up_to 63 None) n))) after (λ n. n) (SmallBelow count) us
  after_zero us after b e z = leads_on (leads_on (leads_same per_fields after six_bits) (leads_zero per_fields (e ∙ ap (λ (x : ℕ). x ∷ after) z))) (leads_map per_fields of_either (Fork (Below 6 count) (LargeBelow count)) us)

  -- after a 1
  pub after_one : (us after : List ℕ) (b : ℕ) → us ≡ b ∷ after → b ≡ 1 → Leads per_fields (LargeBelow count) after (λ n. n) (SmallBelow count) us
  after_one us after b e z = leads_on (leads_one per_fields (e ∙ ap (λ (x : ℕ). x ∷ after) z)) (leads_map per_fields of_either (Fork (Below 6 count) (LargeBelow count)) us)

  -- ---- the long form

  -- some number has one octet
  some_octet : SomeOf (Least (IsLarge count)) 1
  some_octet = record { few = omega arith; number = 64; member = record { member = (omega arith, some); count = one_octet 64 (omega arith) }; fits = omega arith }

  -- and none has more
  one_there : (k : ℕ) → Admits (only 1) k → SomeOf (Least (IsLarge count)) k
  one_there k h = let e : 1 ≡ k = omega (arith, h.0, h.1) in subst (λ (j : ℕ). SomeOf (Least (IsLarge count)) j) e some_octet

  one_back : (k : ℕ) → SomeOf (Least (IsLarge count)) k → Admits (only 1) k
  one_back k s =
      let e : octet_count s.number ≡ 1 = one_octet s.number (omega (arith, few, s.member.member.1)) in
      (omega (arith, e, s.member.count), omega (arith, e, s.member.count), tt)

  -- the length is read
  pub some_length : Meets (λ n. Admits (only 1) n) 0 8
  some_length = set_meets 2 8 1 (omega arith, omega arith, tt) (omega arith)

  pub length_stops : (us : List ℕ) → LeadsStops per_fields (Plain (InSet 8 (λ n. Admits (only 1) n))) us (LargeBelow count) us
  length_stops us =
      stops_on (stops_on (leads_same per_fields us (same_set 2 8 one_there one_back)).stops (stops_count per_fields us eight_bits))
      (leads_map per_fields number_of (Counted 2 8 (Least (IsLarge count))) us).stops

  -- the octet is read
  abbrev pub octets : ℕ → Type 0
  octets n = Admits (record { low = 64; high = count - 1; excluded = None }) n

  pub some_large : Meets octets 0 8
  some_large = set_meets 2 8 64 (omega arith, omega (arith, some), tt) (omega arith)

  octet_there : (n : ℕ) → octets n → Least (IsLarge count) 1 n
  octet_there n h = record { member = (h.0, omega (arith, some, h.1)); count = one_octet n (omega (arith, some, few, h.1)) }

  octet_back : (n : ℕ) → Least (IsLarge count) 1 n → octets n
  octet_back n l = (l.member.0, omega (arith, l.member.1), tt)

  pub octet_leads : (k : ℕ) (us after : List ℕ) → Admits (only 1) k → Spells per_fields (Plain (InSet 8 (λ n. Admits (only 1) n))) k us after
      → Leads per_fields (Plain (InSet 8 octets)) after (λ n. n) (LargeBelow count) us
  octet_leads k us after one s =
      let e : k ≡ 1 = omega (arith, one.0, one.1) in
      let length : Spells per_fields (Plain (InSet 8 (SomeOf (Least (IsLarge count))))) 1 us after =
      subst (λ (j : ℕ). Spells per_fields (Plain (InSet 8 (SomeOf (Least (IsLarge count))))) j us after) e ((leads_same per_fields us (same_set 2 8 one_there one_back)).done k after s) in
      leads_on (leads_on (leads_same per_fields after (same_set 2 8 octet_there octet_back)) (counted_leads per_fields length)) (leads_map per_fields number_of (Counted 2 8 (Least (IsLarge count))) us)
