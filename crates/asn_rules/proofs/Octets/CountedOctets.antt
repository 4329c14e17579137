-- Numbers in the fewest octets after their count: which counts there are, and what a reader cites at each exit.
use Rattle.std.proofs.Common.{◌≡◌, ◌≤◌, ◌<◌, ◌+◌, ◌-◌, ◌*◌, ◌^◌, ◌⊎◌, ℕ, min, max, List, Option, Some, None, inl, inr, ⊎_elim, sym, ap, ◌∙◌, subst, arith}
use Rattle.std.proofs.lemmas.Bool.{cases_eq, cases_lt}
use Rattle.std.proofs.Math.Nat.{pow-le-pow_right, pow-succ', one-le-pow}
use Rattle.asn_bits.specs.Numbers.{octet_count}
use Rattle.asn_bits.specs.Sets.{InDigits, Meets}
use Rattle.asn_bits.proofs.Octets.{octet_count_fits, octet_count_some, octet_count_below}
use Rattle.asn_bits.proofs.Splits.{two_pow_octets}
use Rattle.asn_bits.proofs.Unions.{set_meets}
use Rattle.asn_rules.specs.Counted.{SomeOf, Counted, number_of, Least}
use Rattle.asn_rules.specs.Forks.{Same}
use Rattle.asn_rules.specs.Languages.{Spells, Plain}
use Rattle.asn_rules.specs.NumberSets.{IsNot, Admits, least_of}
use Rattle.asn_rules.specs.declared.number_reader.NumberSet.{NumberSet}
use Rattle.asn_rules.proofs.Numbers.CountedCodes.{one_octet}
use Rattle.asn_rules.proofs.Plain.CountedNumbers.{least_more, least_holds, power_holds, count_is, count_up}
use Rattle.asn_rules.proofs.Languages.Exits.{stops_count, leads_octets}
use Rattle.asn_rules.proofs.Languages.Forks.{same_spells}
use Rattle.asn_rules.proofs.Languages.Leads.{LeadsStops, Leads, leads_on, leads_map, leads_same, stops_on}
use Rattle.asn_rules.proofs.Plain.NumberSets.{same_set}
use Rattle.asn_rules.proofs.Languages.Spellings.{same_then, same_map}
use Rattle.asn_rules.specs.OctetReading.{AreWithCount, AreTrimmed, OctetsIn, CountedIn}
use Rattle.asn_rules.proofs.Octets.OctetFields.{octet_fields_part}
use Rattle.asn_rules.specs.Fields.{octet_fields}

-- ---- which counts there are

-- of two numbers one is not left out
one_of_two : (e : Option ℕ) (a : ℕ) → IsNot e a ⊎ IsNot e (a + 1)
one_of_two None a = inl tt
one_of_two (Some x) a = ⊎_elim (λ f. inr (λ g. omega (arith, f, g))) (λ f. inl f) (cases_eq a x)

module _ (s : NumberSet) (low : Admits s s.low) (high : Admits s s.high) (few : octet_count s.high ≤ 8) where
  -- in between
  inner_count : (c : ℕ) → octet_count s.low < c → c < octet_count s.high → SomeOf (Least (λ m. Admits s m)) c
  inner_count c l h = ⊎_elim (λ n. here a (omega arith) (omega arith) n) (λ n. here (a + 1) (omega arith) (omega arith) n) (one_of_two s.excluded a)
    where
      a : ℕ
      a = 256 ^ (c - 1)

      some : 1 ≤ octet_count s.low
      some = octet_count_some s.low

      next : 256 ^ c ≡ 256 * a
      next = ap (λ k. 256 ^ k) (omega (arith, l)) ∙ pow-succ' 256 (c - 1)

      one : 1 ≤ a
      one = one-le-pow (c - 1) 256 (omega arith)

      above : s.low < a
      above = omega (arith, octet_count_fits s.low, pow-le-pow_right {n = 256} (omega arith) {i = octet_count s.low} {j = c - 1} (omega (arith, l)))

      below : 256 ^ c ≤ s.high
      below = ⊎_elim (λ k. absurd (omega (arith, h, octet_count_below s.high c (omega (arith, l, some)) k))) (λ k. k) (cases_lt s.high (256 ^ c))

      here : (n : ℕ) → a ≤ n → n ≤ a + 1 → IsNot s.excluded n → SomeOf (Least (λ m. Admits s m)) c
      here n f g o =
          let fits : n < 256 ^ c = omega (arith, g, next, one) in
          let least : least_of c ≤ n = omega (arith, f, least_more c (omega (arith, l, some))) in
          record {
            few = omega (arith, h, few);
            number = n;
            member = record { member = (omega (arith, f, above), omega (arith, fits, below), o); count = count_is n c (omega (arith, l, some)) least fits };
            fits = fits;
          }

  pub count_there : (c : ℕ) → octet_count s.low ≤ c → c ≤ octet_count s.high → SomeOf (Least (λ m. Admits s m)) c
  count_there c l h = ⊎_elim lowest (λ n. ⊎_elim highest (λ m. inner_count c (omega (arith, l, n)) (omega (arith, h, m))) (cases_eq c (octet_count s.high))) (cases_eq c (octet_count s.low))
    where
      lowest : c ≡ octet_count s.low → SomeOf (Least (λ m. Admits s m)) c
      lowest e = record { few = omega (arith, h, few); number = s.low; member = record { member = low; count = sym e }; fits = subst (λ k. s.low < 256 ^ k) (sym e) (octet_count_fits s.low) }

      highest : c ≡ octet_count s.high → SomeOf (Least (λ m. Admits s m)) c
      highest e = record { few = omega (arith, h, few); number = s.high; member = record { member = high; count = sym e }; fits = subst (λ k. s.high < 256 ^ k) (sym e) (octet_count_fits s.high) }

  pub count_back : (c : ℕ) → SomeOf (Least (λ m. Admits s m)) c → (octet_count s.low ≤ c) × (c ≤ octet_count s.high)
  count_back c o = (omega (arith, count_up s.low o.number o.member.member.0, o.member.count), omega (arith, count_up o.number s.high o.member.member.1, o.member.count))

  -- the counts that a reader admits
  abbrev pub counts : NumberSet
  counts = record { low = octet_count s.low; high = octet_count s.high; excluded = None }

  same_counts : Same (OctetsIn 1 counts) (Plain (InDigits 256 1 (SomeOf (Least (λ m. Admits s m)))))
  same_counts = same_set 256 1 (λ c h. count_there c h.0 h.1) (λ c o. (let w = count_back c o in (w.0, w.1, tt)))

  -- some count is there
  pub some_counts : Meets (λ n. Admits counts n) 0 8
  some_counts = set_meets 2 8 (octet_count s.high) (count_up s.low s.high low.1, omega arith, tt) (omega (arith, few))

  pub stops_at_count : (us : List ℕ) → LeadsStops octet_fields (OctetsIn 1 counts) us (CountedIn s) us
  stops_at_count us =
      stops_on (leads_same octet_fields us same_counts).stops (stops_on (stops_count octet_fields us one_octet) (leads_map octet_fields number_of (Counted 256 1 (Least (λ m. Admits s m))) us).stops)

  -- some number has the count
  pub some_with_count : (c : ℕ) (t : NumberSet) → AreWithCount s c t → Admits counts c → Meets (λ n. Admits t n) 0 (8 * c)
  some_with_count c t are h =
      let o = count_there c h.0 h.1 in
      set_meets 2 (8 * c) o.number (are.back o.number o.member) (omega (arith, o.fits, two_pow_octets c))

  -- the reader of the number answers for the whole
  pub leads_to_number : (c : ℕ) (t : NumberSet) (us r : List ℕ) → AreWithCount s c t → Spells octet_fields (OctetsIn 1 counts) c us r → Leads octet_fields (OctetsIn c t) r (λ n. n) (CountedIn s) us
  leads_to_number c t us r are h =
      let e : 1 * c ≡ c = omega arith in
      let octets : Leads octet_fields (Plain (InDigits 256 c (Least (λ m. Admits s m) c))) r (λ n. (c, n)) (Counted 256 1 (Least (λ m. Admits s m))) us =
      subst (λ (k : ℕ). Leads octet_fields (Plain (InDigits 256 k (Least (λ m. Admits s m) c))) r (λ n. (c, n)) (Counted 256 1 (Least (λ m. Admits s m))) us) e (leads_octets octet_fields_part (same_spells same_counts h)) in
      leads_on (leads_same octet_fields r (same_set 256 c are.there are.back)) (leads_on octets (leads_map octet_fields number_of (Counted 256 1 (Least (λ m. Admits s m))) us))

-- ---- the numbers with a count

-- the low end of those with a count
pub record IsLow (s : NumberSet) (c l : ℕ) : Type 0 where
  pub above : (n : ℕ) → l ≤ n → (s.low ≤ n) × (least_of c ≤ n)
  pub back : (n : ℕ) → s.low ≤ n → least_of c ≤ n → l ≤ n

pub low_end : (s : NumberSet) (c : ℕ) → IsLow s c (max s.low (least_of c))
low_end s c = record { above = λ n l. (omega arith, omega (arith, l)); back = λ n l k. omega (arith, l, k) }

pub are_with_count : (s : NumberSet) (c low greatest : ℕ) → 1 ≤ c → IsLow s c low → greatest + 1 ≡ 256 ^ c → AreWithCount s c (record { low = low; high = min s.high greatest; excluded = s.excluded })
are_with_count s c low greatest some l g = record {
  there = λ n h.
      let a = l.above n h.0 in
      record { member = (a.0, omega (arith, h.1), h.2); count = count_is n c some a.1 (omega (arith, h.1, g)) };
  back = λ n h. (l.back n h.member.0 (least_holds n c h.count), omega (arith, h.member.1, power_holds n c h.count, g), h.member.2);
}

-- ---- the same numbers in another set

least_again : {S T : ℕ → Type 0} → ((n : ℕ) → S n → T n) → (c n : ℕ) → Least S c n → Least T c n
least_again f c n h = record { member = f n h.member; count = h.count }

some_again : {S T : ℕ → Type 0} → ((n : ℕ) → S n → T n) → (c : ℕ) → SomeOf (Least S) c → SomeOf (Least T) c
some_again f c o = record { few = o.few; number = o.number; member = least_again f c o.number o.member; fits = o.fits }

pub same_counted : {S T : ℕ → Type 0} → ((n : ℕ) → S n → T n) → ((n : ℕ) → T n → S n) → Same (Counted 256 1 (Least S)) (Counted 256 1 (Least T))
same_counted f g = same_then (same_set 256 1 (some_again f) (some_again g)) (λ k. same_set 256 (1 * k) (least_again f k) (least_again g k))

pub trimmed_leads : (s t : NumberSet) (us : List ℕ) → AreTrimmed s t → Leads octet_fields (CountedIn t) us (λ n. n) (CountedIn s) us
trimmed_leads s t us are = leads_same octet_fields us (same_map (same_counted are.back are.there))
