-- The language of numbers in the fewest octets, in the sets that their reader tests.
use Rattle.std.proofs.Common.{◌≡◌, ◌≢◌, ◌≤◌, ◌<◌, ◌+◌, ◌-◌, ◌*◌, ◌^◌, ◌⊎◌, ℕ, min, Bool, true, false, ◌&&◌, eqb, List, Option, Some, None, inl, inr, refl, sym, subst, arith}
use Rattle.std.proofs.lemmas.Bool.{cases_lt, eqb-true, eqb-false}
use Rattle.asn_bits.specs.Numbers.{octet_count}
use Rattle.asn_bits.proofs.Octets.{octet_count_fits, octet_count_below}
use Rattle.asn_bits.proofs.Splits.{two_pow_octets}
use Rattle.asn_rules.specs.Counted.{SomeOf, Least, Counted, number_of}
use Rattle.asn_rules.specs.Forks.{Same}
use Rattle.asn_rules.specs.Languages.{Plain, Spells}
use Rattle.asn_bits.specs.Sets.{InDigits, Meets}
use Rattle.asn_rules.specs.Live.{Fielding}
use Rattle.asn_rules.specs.NumberSets.{IsNot, Admits, up_to, SemiConstrainedIn, least_of, highest_count_of}
use Rattle.asn_rules.specs.declared.number_reader.NumberSet.{NumberSet}
use Rattle.asn_rules.proofs.Numbers.CountedCodes.{eight_bits}
use Rattle.asn_rules.proofs.Languages.Exits.{stops_count}
use Rattle.asn_rules.proofs.Languages.Forks.{same_spells}
use Rattle.asn_rules.proofs.Languages.Leads.{LeadsStops, Leads, stops_on, leads_on, leads_map, leads_same}
use Rattle.asn_rules.proofs.Plain.NumberSets.{same_set, counted_leads}
use Rattle.asn_rules.proofs.Plain.CountedNumbers.{number_there, number_back, lower_count, highest_count, count_within, count_below, count_up}

-- the counts that a reader admits
abbrev pub counts_of : ℕ → Option ℕ → NumberSet
counts_of top e = record { low = 1; high = highest_count_of top e; excluded = None }

-- the numbers that it admits after a count
abbrev pub numbers_of : ℕ → Option ℕ → ℕ → ℕ → NumberSet
numbers_of top e c last = record { low = least_of c; high = min top last; excluded = e }

abbrev Those : ℕ → Option ℕ → ℕ → Type 0
Those top e m = Admits (up_to top e) m

-- ---- counts

not_both : (x top low : ℕ) → (eqb x top && eqb top low) ≡ false → (top ≢ x) ⊎ (top ≢ low)
not_both x top low h = go (eqb x top) (eqb top low) refl refl h
  where
    go : (a b : Bool) → eqb x top ≡ a → eqb top low ≡ b → (a && b) ≡ false → (top ≢ x) ⊎ (top ≢ low)
    go false b p q r = inl (λ e. eqb-false x top p (sym e))
    go true false p q r = inr (eqb-false top low q)
    go true true p q r = absurd (cc)

both : (x top low : ℕ) → (eqb x top && eqb top low) ≡ true → (x ≡ top) × (top ≡ low)
both x top low h = go (eqb x top) (eqb top low) refl refl h
  where
    go : (a b : Bool) → eqb x top ≡ a → eqb top low ≡ b → (a && b) ≡ true → (x ≡ top) × (top ≡ low)
    go true true p q r = (eqb-true x top p, eqb-true top low q)
    go true false p q r = absurd (cc)
    go false b p q r = absurd (cc)

up_to_count : (top : ℕ) (e : Option ℕ) (c : ℕ) → octet_count top ≤ 9 → 1 ≤ c → c ≤ octet_count top → (c ≡ octet_count top → IsNot e top ⊎ (top ≢ least_of (octet_count top))) → SomeOf (Least (Those top e)) c
up_to_count top e c few some h last = go (cases_lt c (octet_count top))
  where
    go : (c < octet_count top) ⊎ (octet_count top ≤ c) → SomeOf (Least (Those top e)) c
    go (inl k) = lower_count top e c some k few
    go (inr k) =
        let same : c ≡ octet_count top = omega arith in
        subst (SomeOf (Least (Those top e))) (sym same) (highest_count top e few (last same))

pub count_there : (top : ℕ) (e : Option ℕ) → octet_count top ≤ 9 → (c : ℕ) → Admits (counts_of top e) c → SomeOf (Least (Those top e)) c
count_there top None few c h = up_to_count top None c few h.0 h.1 (λ e. inl tt)
count_there top (Some x) few c h = go (eqb x top && eqb top (least_of (octet_count top))) refl
  where
    go : (b : Bool) → (eqb x top && eqb top (least_of (octet_count top))) ≡ b → SomeOf (Least (Those top (Some x))) c
    go true t =
        let less : c ≤ octet_count top - 1 = subst (λ (b : Bool). c ≤ elim b [ true ↦ octet_count top - 1 | false ↦ octet_count top ]) t h.1 in
        lower_count top (Some x) c h.0 (omega (arith, less, h.0)) few
    go false t =
        let most : c ≤ octet_count top = subst (λ (b : Bool). c ≤ elim b [ true ↦ octet_count top - 1 | false ↦ octet_count top ]) t h.1 in
        up_to_count top (Some x) c few h.0 most (λ e. not_both x top (least_of (octet_count top)) t)

count_back : (top : ℕ) (e : Option ℕ) (c : ℕ) → SomeOf (Least (Those top e)) c → Admits (counts_of top e) c
count_back top None c s = let w = count_within top None c s in (w.0, w.1, tt)
count_back top (Some x) c s = go (eqb x top && eqb top (least_of (octet_count top))) refl
  where
    within : (1 ≤ c) × (c ≤ octet_count top)
    within = count_within top (Some x) c s

    go : (b : Bool) → (eqb x top && eqb top (least_of (octet_count top))) ≡ b → Admits (counts_of top (Some x)) c
    go false t = (within.0, subst (λ (b : Bool). c ≤ elim b [ true ↦ octet_count top - 1 | false ↦ octet_count top ]) (sym t) within.1, tt)
    go true t =
        let w = both x top (least_of (octet_count top)) t in
        let less : c < octet_count top = count_below top c w.1 (subst (λ (i : ℕ). SomeOf (Least (Those top (Some i))) c) w.0 s) in
        (within.0, subst (λ (b : Bool). c ≤ elim b [ true ↦ octet_count top - 1 | false ↦ octet_count top ]) (sym t) (omega (arith, less)), tt)

-- the counts that some number has are those that the reader admits
pub same_counts : (top : ℕ) (e : Option ℕ) → octet_count top ≤ 9 → Same (Plain (InDigits 2 8 (λ n. Admits (counts_of top e) n))) (Plain (InDigits 2 8 (SomeOf (Least (λ m. Admits (up_to top e) m)))))
same_counts top e few = same_set 2 8 (count_there top e few) (count_back top e)

-- and one is there
pub some_count : {k : ℕ} (top : ℕ) (e : Option ℕ) → octet_count top ≤ 9 → Meets (λ n. Admits (up_to top e) n) 0 k → Meets (λ n. Admits (counts_of top e) n) 0 8
some_count top e few m =
    let c = octet_count m.number in
    let within = count_up m.number top m.member.1 in
    let has : SomeOf (Least (Those top e)) c = record { few = omega (arith, within); number = m.number; member = record { member = m.member; count = refl }; fits = octet_count_fits m.number } in
    record { number = c; member = count_back top e c has; least = omega arith; below = omega (arith, within) }

-- ---- numbers

pub same_numbers : (top : ℕ) (e : Option ℕ) (c last : ℕ) → 1 ≤ c → last + 1 ≡ 256 ^ c
    → Same (Plain (InDigits 2 (8 * c) (λ n. Admits (numbers_of top e c last) n))) (Plain (InDigits 2 (8 * c) (Least (λ m. Admits (up_to top e) m) c)))
same_numbers top e c last some power = same_set 2 (8 * c) (number_there top e c some last power) (number_back top e c some last power)

pub some_number : (top : ℕ) (e : Option ℕ) (c last : ℕ) → 1 ≤ c → last + 1 ≡ 256 ^ c → SomeOf (Least (λ m. Admits (up_to top e) m)) c → Meets (λ n. Admits (numbers_of top e c last) n) 0 (8 * c)
some_number top e c last some power s = record {
  number = s.number;
  member = number_back top e c some last power s.number s.member;
  least = omega arith;
  below = omega (arith, s.fits, two_pow_octets c);
}

-- ---- the answers of their readers

-- a number of 72 bits has at most 9 octets
pub at_most_nine : (top : ℕ) → top < 2 ^ 72 → octet_count top ≤ 9
at_most_nine top h = octet_count_below top 9 (omega arith) (omega (arith, h))

-- the reader of the count stops
pub stops_at_count : (R : Fielding) (top : ℕ) (e : Option ℕ) (us : List ℕ) → octet_count top ≤ 9
    → LeadsStops R (Plain (InDigits 2 8 (λ n. Admits (counts_of top e) n))) us (SemiConstrainedIn (up_to top e)) us
stops_at_count R top e us few =
    stops_on (leads_same R us (same_counts top e few)).stops (stops_on (stops_count R us eight_bits) (leads_map R number_of (Counted 2 8 (Least (Those top e))) us).stops)

-- the reader of the number answers for the whole
pub leads_to_number : (R : Fielding) (top : ℕ) (e : Option ℕ) (c last : ℕ) (us r : List ℕ) → octet_count top ≤ 9 → 1 ≤ c → last + 1 ≡ 256 ^ c
    → Spells R (Plain (InDigits 2 8 (λ n. Admits (counts_of top e) n))) c us r
    → Leads R (Plain (InDigits 2 (8 * c) (λ n. Admits (numbers_of top e c last) n))) r (λ n. n) (SemiConstrainedIn (up_to top e)) us
leads_to_number R top e c last us r few some power s =
    let count = same_spells (same_counts top e few) s in
    leads_on (leads_same R r (same_numbers top e c last some power))
    (leads_on (counted_leads R count) (leads_map R number_of (Counted 2 8 (Least (Those top e))) us))
