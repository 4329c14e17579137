-- The language of integers in the fewest octets of two's complement, in the sets that their reader tests.
use Rattle.std.proofs.Common.{◌≡◌, ◌<◌, ◌≤◌, ◌+◌, ◌*◌, ◌/◌, ◌%◌, ◌^◌, ◌++◌, append_assoc, ◌+ℤ◌, ℕ, ℤ, pos, ◌≤ℤ◌, List, None, refl, sym, ap, ◌∙◌, subst, arith}
use Rattle.std.proofs.lemmas.Int.{ints}
use Rattle.std.proofs.Math.Nat.{mod-lt, one-le-pow}
use Rattle.asn_values.specs.Fits.{lowest_integer, highest_integer, integer_count}
use Rattle.asn_bits.specs.Numbers.{bits, signed_octet_count}
use Rattle.asn_bits.specs.Sets.{InDigits, Among, Meets}
use Rattle.asn_bits.proofs.Above.{above-add}
use Rattle.asn_bits.proofs.Weights.{bits_are}
use Rattle.asn_bits.proofs.Splits.{digits-add, digits-mod, two_pow_octets}
use Rattle.asn_rules.specs.Counted.{SomeOf, LeastSigned, Counted, signed_number}
use Rattle.asn_rules.specs.Forks.{Same}
use Rattle.asn_rules.specs.Languages.{Plain, Spells}
use Rattle.asn_rules.specs.Live.{Fielding}
use Rattle.asn_rules.specs.NumberSets.{Admits}
use Rattle.asn_rules.specs.Chunks.{ones}
use Rattle.asn_rules.proofs.Live.Flat.{flat-ones}
use Rattle.asn_rules.proofs.Languages.Parts.{contents-ones}
use Rattle.asn_rules.specs.OffsetSets.{HasInteger, HasOffset, StandsFor, SignedIn, UnconstrainedIn, AreSigned, AreStanding}
use Rattle.asn_rules.specs.declared.number_reader.NumberSet.{NumberSet}
use Rattle.asn_rules.specs.declared.signed_reader.OffsetSet.{OffsetSet}
use Rattle.asn_rules.proofs.Numbers.CountedCodes.{counted_spells, eight_bits}
use Rattle.asn_rules.proofs.Languages.Exits.{stops_count}
use Rattle.asn_rules.proofs.Languages.Forks.{same_spells}
use Rattle.asn_rules.proofs.Languages.Leads.{LeadsStops, Leads, stops_on, leads_on, leads_map, leads_same}
use Rattle.asn_rules.proofs.Plain.NumberSets.{same_set, counted_leads}
use Rattle.asn_rules.proofs.Plain.SignedNumbers.{count_of_offset}
use Rattle.asn_rules.proofs.Numbers.Sets.{set_spells}

-- the counts that a reader admits
abbrev pub signed_counts : ℕ → ℕ → NumberSet
signed_counts low high = record { low = low; high = high; excluded = None }

module _ (s : OffsetSet) (low high : ℕ)
    (there : (c : ℕ) → low ≤ c → c ≤ high → SomeOf (LeastSigned (λ z. HasInteger s z)) c)
    (back : (c : ℕ) → SomeOf (LeastSigned (λ z. HasInteger s z)) c → (low ≤ c) × (c ≤ high)) where
  same_counts : Same (Plain (InDigits 2 8 (λ n. Admits (signed_counts low high) n))) (Plain (InDigits 2 8 (SomeOf (LeastSigned (λ z. HasInteger s z)))))
  same_counts = same_set 2 8 (λ c a. there c a.0 a.1) (λ c o. (let w = back c o in (w.0, w.1, tt)))

  -- the reader of the count stops
  pub stops_at_count : (R : Fielding) (us : List ℕ) → LeadsStops R (Plain (InDigits 2 8 (λ n. Admits (signed_counts low high) n))) us (UnconstrainedIn s) us
  stops_at_count R us =
      stops_on (leads_same R us same_counts).stops (stops_on (stops_count R us eight_bits) (leads_map R signed_number (Counted 2 8 (LeastSigned (λ z. HasInteger s z))) us).stops)

  -- the reader of the number answers for the whole
  pub leads_to_number : (R : Fielding) (c : ℕ) (is : List (ℕ × ℕ)) (us r : List ℕ) → AreSigned s c is → Spells R (Plain (InDigits 2 8 (λ n. Admits (signed_counts low high) n))) c us r
      → Leads R (Plain (InDigits 2 (8 * c) (λ n. Among is n))) r (λ n. signed_number (c, n)) (UnconstrainedIn s) us
  leads_to_number R c is us r are h =
      leads_on (leads_same R r (same_set 2 (8 * c) are.back are.there))
      (leads_on (counted_leads R (same_spells same_counts h)) (leads_map R signed_number (Counted 2 8 (LeastSigned (λ z. HasInteger s z))) us))

-- a count is there
pub some_count : (s : OffsetSet) (low high : ℕ) → s.end ≤ integer_count → ((w : ℕ) × HasOffset s w) → high ≤ 9 → ((c : ℕ) → SomeOf (LeastSigned (λ z. HasInteger s z)) c → (low ≤ c) × (c ≤ high)) → Meets (λ n. Admits (signed_counts low high) n) 0 8
some_count s low high most o few back =
    let k = count_of_offset s o.0 most o.1 in
    let w = back k.0 k.1 in
    record { number = k.0; member = (w.0, w.1, tt); least = omega arith; below = omega (arith, w.1, few) }

-- a number is there after a count
pub some_number : (s : OffsetSet) (c : ℕ) (is : List (ℕ × ℕ)) → AreSigned s c is → SomeOf (LeastSigned (λ z. HasInteger s z)) c → Meets (λ n. Among is n) 0 (8 * c)
some_number s c is are o = record { number = o.number; member = are.there o.number o.member; least = omega arith; below = omega (arith, o.fits, two_pow_octets c) }

-- a number in this many octets is read for its integer
pub standing_leads : (s : OffsetSet) (c : ℕ) (is : List (ℕ × ℕ)) → AreStanding s c is → (R : Fielding) (us : List ℕ) → Leads R (Plain (InDigits 2 (8 * c) (λ n. Among is n))) us (λ n. signed_number (c, n)) (SignedIn c s) us
standing_leads s c is are R us = leads_on (leads_same R us (same_set 2 (8 * c) are.back are.there)) (leads_map R (λ n. signed_number (c, n)) (Plain (InDigits 2 (8 * c) (StandsFor s c))) us)

-- an integer that is read is one of the profile
pub signed_within : (R : Fielding) (s : OffsetSet) {z : ℤ} {us r : List ℕ} → Spells R (UnconstrainedIn s) z us r → (lowest_integer ≤ℤ z) × (z ≤ℤ highest_integer)
signed_within R s {z = z} h =
    let m : HasInteger s (signed_number h.spelt.source) = h.spelt.spelt.follows.spelt.member.member in
    let e = h.spelt.seen in
    rw e (m.0, m.1)

-- ---- in one step

-- a number that stands for an integer at one of the offsets
stands_at : (s : OffsetSet) (c n w : ℕ) → w < 2 ^ 64 → lowest_integer +ℤ pos w ≡ signed_number (c, n) → HasOffset s w → n < 256 ^ c → StandsFor s c n
stands_at s c n w few e has fits = record {
  member = subst (λ (z : ℤ). HasInteger s z) e (omega (arith, ints), omega (arith, ints, few), subst (λ (i : ℕ). HasOffset s i) (sym (above-add lowest_integer w)) has);
  fits = fits;
}

-- it is read for that integer
pub standing_spells : (R : Fielding) (s : OffsetSet) (c n w : ℕ) (us rest : List ℕ) → w < 2 ^ 64 → lowest_integer +ℤ pos w ≡ signed_number (c, n) → HasOffset s w → n < 2 ^ (8 * c) → us ≡ bits (8 * c) n ++ rest → Spells R (SignedIn c s) (lowest_integer +ℤ pos w) us rest
standing_spells R s c n w us rest few e has fits split = record {
  chunks = ones (bits (8 * c) n);
  spelt = record {
    source = n;
    spelt = record { units = bits (8 * c) n; spelt = record { digits = bits_are (8 * c) n fits; member = stands_at s c n w few e has (omega (arith, fits, two_pow_octets c)) }; same = refl };
    seen = e;
  };
  contents = contents-ones R (bits (8 * c) n);
  split = split ∙ ap (λ (l : List ℕ). l ++ rest) (sym (flat-ones R.spelled (bits (8 * c) n)));
}

-- so does a number in the fewest octets, after their count
pub unconstrained_spells : (R : Fielding) (s : OffsetSet) (c n w all : ℕ) (us rest : List ℕ) → c < 128 → all / 2 ^ (8 * c) ≡ c → n ≡ all % 2 ^ (8 * c) → w < 2 ^ 64 → lowest_integer +ℤ pos w ≡ signed_number (c, n) → HasOffset s w
    → signed_octet_count (lowest_integer +ℤ pos w) ≡ c → us ≡ bits (8 * (1 + c)) all ++ rest → Spells R (UnconstrainedIn s) (lowest_integer +ℤ pos w) us rest
unconstrained_spells R s c n w all us rest few first last less e has fewest split =
    let T = LeastSigned (λ z. HasInteger s z) in
    let bound : n < 2 ^ (8 * c) = subst (λ (i : ℕ). i < 2 ^ (8 * c)) (sym last) (mod-lt all (one-le-pow (8 * c) 2 (omega arith))) in
    let fits : n < 256 ^ c = omega (arith, bound, two_pow_octets c) in
    let least : T c n = record { member = (stands_at s c n w less e has fits).member; count = ap signed_octet_count (sym e) ∙ fewest; fits = fits } in
    let some : SomeOf T c = record { few = few; number = n; member = least; fits = fits } in
    let both : bits (8 * (1 + c)) all ≡ bits 8 c ++ bits (8 * c) n =
    ap (λ (i : ℕ). bits i all) (omega arith) ∙ digits-add 2 8 (8 * c) all
    ∙ ap (λ (i : ℕ). bits 8 i ++ bits (8 * c) all) first ∙ ap (λ (l : List ℕ). bits 8 c ++ l) (sym (digits-mod 2 (omega arith) (8 * c) all) ∙ ap (bits (8 * c)) (sym last)) in
    let front : us ≡ bits 8 c ++ (bits (8 * c) n ++ rest) = split ∙ ap (λ (l : List ℕ). l ++ rest) both ∙ append_assoc (bits 8 c) (bits (8 * c) n) rest in
    let count : Spells R (Plain (InDigits 2 8 (SomeOf T))) c (bits 8 c ++ (bits (8 * c) n ++ rest)) (bits (8 * c) n ++ rest) = set_spells R c (bits 8 c) (bits (8 * c) n ++ rest) (bits_are 8 c (omega arith)) some in
    let number : Spells R (Plain (InDigits 2 (8 * c) (T c))) n (bits (8 * c) n ++ rest) rest = set_spells R n (bits (8 * c) n) rest (bits_are (8 * c) n bound) least in
    let counted : Spells R (Counted 2 8 T) (c, n) (bits 8 c ++ (bits (8 * c) n ++ rest)) rest = counted_spells count number in
    subst (λ (l : List ℕ). Spells R (UnconstrainedIn s) (lowest_integer +ℤ pos w) l rest) (sym front) (record {
      chunks = counted.chunks;
      spelt = record { source = (c, n); spelt = counted.spelt; seen = e };
      contents = counted.contents;
      split = counted.split;
    })
