-- Where the readers of the preamble of a SEQUENCE and of the presence bits of its additions stand, and what they cite
-- at each exit.
use Rattle.std.proofs.Common.{◌≡◌, ◌≤◌, ◌<◌, ◌+◌, ◌-◌, ◌^◌, ◌⊎◌, inl, inr, ℕ, zero, suc, Bool, true, false, nat_lt, List, [], ◌∷◌, ◌++◌, length, Option, Some, None, refl, sym, ap, ◌∙◌, arith}
use Rattle.std.proofs.lemmas.Bool.{true≢false, ltb-false}
use Rattle.std.proofs.lemmas.Nat.{pow_pos}
use Rattle.asn_bits.specs.Numbers.{bits}
use Rattle.asn_bits.specs.Sets.{InSet, Meets}
use Rattle.asn_bits.specs.Sink.{bit_of}
use Rattle.asn_bits.proofs.Octets.{length-digits}
use Rattle.asn_bits.proofs.Unions.{set_meets}
use Rattle.asn_bits.proofs.Widths.{lt-two_pow}
use Rattle.asn_rules.specs.Chunks.{Chunk, ones}
use Rattle.asn_rules.specs.Components.{extension_bit}
use Rattle.asn_rules.specs.Forks.{Fork, Same}
use Rattle.asn_rules.specs.General.{after_first}
use Rattle.asn_rules.specs.Languages.{Spells, Refused, Inhabited, Then, Map, Plain}
use Rattle.asn_rules.specs.Spellings.{SpelledBy, FitsEither, either_code}
use Rattle.asn_rules.specs.Stops.{Stops}
use Rattle.asn_rules.specs.declared.stop.Stop.{Stop}
use Rattle.asn_rules.specs.declared.stop.Stop.TheVariants as stop
use Rattle.asn_rules.proofs.Languages.Parts.{contents-ones}
use Rattle.asn_rules.proofs.Live.Chunks.{ones-append}
use Rattle.asn_rules.proofs.Live.Flat.{flat-ones}
use Rattle.asn_walk.specs.AtOnce.{MarkedFirst}
use Rattle.asn_rules.proofs.Languages.Exits.{leads_zero, leads_one}
use Rattle.asn_rules.proofs.Languages.Forks.{same_flip, same_spells, fork_short, fork_refused, fork_inhabited_zero}
use Rattle.asn_rules.proofs.Languages.Leads.{LeadsStops, Leads, leads_on, leads_map, leads_same, leads_second, stops_first, stops_on}
use Rattle.asn_rules.proofs.Numbers.Sets.{set_inhabited, set_lawful}
use Rattle.asn_rules.proofs.Languages.Spellings.{same_after, same_map, same_then, same_spelled, set_spelled, then_spelled, map_spelled, fork_spelled, spelled_inhabited}
use Rattle.asn_walk.specs.Coding.{CanExtend, GoodPreamble, PreambleOf, AdditionBitmapOf}
use Rattle.asn_rules.specs.declared.number_reader.NumberSet.{NumberSet}
use Rattle.asn_per.specs.Kinds.{AdditionCount, SomePresent}
use Rattle.asn_per.specs.Per.{per_fields, small_length, spelled}
use Rattle.asn_rules.specs.NumberSets.{Admits, up_to}
use Rattle.asn_per.specs.Reading.{StopsAtMark, only}
use Rattle.asn_per.specs.Walk.{per_coding}
use Rattle.asn_per.proofs.Types.AdditionLanguages.{count_bits}
use Rattle.asn_rules.proofs.Plain.NumberSets.{same_set}
use Rattle.asn_per.proofs.Encodings.PerFields.{per_fields_part}

-- ---- the preamble: an extension bit and presence bits

-- additions are listed, or none is
pub some_listed : (k : ℕ) → nat_lt 0 k ≡ true → CanExtend (Some k)
some_listed zero e = absurd (true≢false (sym e))
some_listed (suc k) e = tt

none_listed : (k : ℕ) → nat_lt 0 k ≡ false → k ≡ 0
none_listed k e = omega (arith, ltb-false 0 k e)

module _ (n high : ℕ) (all : high + 1 ≡ 2 ^ n) where
  -- the presence bits, as they are read
  abbrev pub Bitmaps : ℕ → List Chunk → Type 0
  Bitmaps = Plain (InSet n (λ m. Admits (up_to high None) m))

  -- some are there
  pub some_bitmap : Meets (λ m. Admits (up_to high None) m) 0 n
  some_bitmap = set_meets 2 n 0 (omega arith, omega arith, tt) (pow_pos n)

  -- they are the numbers of that many bits
  abbrev Numbered : ℕ → List Chunk → Type 0
  Numbered = SpelledBy (λ m. m < 2 ^ n) (λ m. ones (bits n m))

  bitmaps_spelled : Same Bitmaps Numbered
  bitmaps_spelled = same_after (set_spelled n (λ m. Admits (up_to high None) m) (λ m h. omega (arith, h.1, all))) (same_spelled (λ m h. omega (arith, h.1, all)) (λ m h. (omega arith, omega (arith, h, all), tt)) (λ m h. refl))

  -- without an extension mark
  unmarked : Same (Map (λ m. (false, m)) Numbered) (PreambleOf per_coding n None)
  unfolding per_coding
  unmarked = map_spelled (λ m h. ((h, λ e. absurd (true≢false (sym e))), refl)) back
    where
      back : (p : Bool × ℕ) → GoodPreamble n None p → (m : ℕ) × (m < 2 ^ n) × (p ≡ (false, m))
      back (false, m) h = (m, h.0, refl)
      back (true, m) h = absurd (h.1 refl)

  pub unmarked_leads : (us : List ℕ) → Leads per_fields Bitmaps us (λ m. (false, m)) (PreambleOf per_coding n None) us
  unmarked_leads us = leads_on (leads_same per_fields us bitmaps_spelled) (leads_on (leads_map per_fields (λ m. (false, m)) Numbered us) (leads_same per_fields us unmarked))

  module _ (k : ℕ) where
    -- with one, after a 1 only where there are additions
    abbrev Extended : ℕ → List Chunk → Type 0
    Extended = SpelledBy (λ m. (m < 2 ^ n) × CanExtend (Some k)) (λ m. ones (bits n m))

    abbrev told : ℕ ⊎ ℕ → Bool × ℕ
    told (inl m) = (false, m)
    told (inr m) = (true, m)

    marked : Same (Map told (Fork Numbered Extended)) (PreambleOf per_coding n (Some k))
    unfolding per_coding
    marked = same_after (same_map fork_spelled) (map_spelled there back)
      where
        there : (w : ℕ ⊎ ℕ) → FitsEither (λ m. m < 2 ^ n) (λ m. (m < 2 ^ n) × CanExtend (Some k)) w
            → GoodPreamble n (Some k) (told w) × (either_code (λ m. ones (bits n m)) (λ m. ones (bits n m)) w ≡ ones (extension_bit true (told w).0 ++ bits n (told w).1))
        there (inl m) h = ((h, λ e. absurd (true≢false (sym e))), refl)
        there (inr m) h = ((h.0, λ e. h.1), refl)

        back : (p : Bool × ℕ) → GoodPreamble n (Some k) p → (w : ℕ ⊎ ℕ) × FitsEither (λ m. m < 2 ^ n) (λ m. (m < 2 ^ n) × CanExtend (Some k)) w × (p ≡ told w)
        back (false, m) h = (inl m, h.0, refl)
        back (true, m) h = (inr m, (h.0, h.1 refl), refl)

    whole : (us : List ℕ) → Leads per_fields (Fork Numbered Extended) us told (PreambleOf per_coding n (Some k)) us
    whole us = leads_on (leads_map per_fields told (Fork Numbered Extended) us) (leads_same per_fields us marked)

    some_preamble : Inhabited (Fork Numbered Extended)
    some_preamble = fork_inhabited_zero (spelled_inhabited 0 (pow_pos n))

    -- within the extension bit
    bit_refused : k ≡ 0 → (after : List ℕ) → Refused per_fields (PreambleOf per_coding n (Some k)) (1 ∷ after) (length after)
    bit_refused none after =
        (whole (1 ∷ after)).stops.refused (length after) (fork_refused per_fields_part some_preamble 1 after (λ f. absurd (omega arith)) (λ f i. nothing k none i.spelt.fits.1))
      where
        nothing : (k : ℕ) → k ≡ 0 → CanExtend (Some k) → ⊥
        nothing zero e h = h
        nothing (suc k) e h = absurd (omega arith)

    pub mark_stops : (us : List ℕ) (why : Stop) → StopsAtMark (nat_lt 0 k) us why → Stops per_fields (PreambleOf per_coding n (Some k)) us why
    mark_stops us stop.Short h = rw h (record { told = (whole []).stops.short (fork_short some_preamble) })
    mark_stops us (stop.Refused left why) h = rw (h.3, h.2) (record { told = bit_refused (none_listed k h.0) h.1 })
    mark_stops us stop.Memory h = absurd h

    -- after it stand the presence bits
    pub marked_leads : (b : Bool) (us after : List ℕ) → us ≡ bit_of b ∷ after → (b ≡ true → CanExtend (Some k)) → Leads per_fields Bitmaps after (λ m. (b, m)) (PreambleOf per_coding n (Some k)) us
    marked_leads false us after e some = leads_on (leads_same per_fields after bitmaps_spelled) (leads_on (leads_zero per_fields e) (whole us))
    marked_leads true us after e some =
        leads_on (leads_same per_fields after (same_after bitmaps_spelled (same_spelled (λ m h. (h, some refl)) (λ m h. h.0) (λ m h. refl)))) (leads_on (leads_one per_fields e) (whole us))

-- both, where they stand at the front
can_extend : (k : ℕ) → 0 < k → CanExtend (Some k)
can_extend zero h = absurd (omega arith)
can_extend (suc k) h = tt

pub marked_preamble : (n : ℕ) (a : Option ℕ) (p : Bool × ℕ) (us r : List ℕ) → MarkedFirst n a p us r → Spells per_fields (PreambleOf per_coding n a) p us r
marked_preamble n a p us r h =
    let all : 2 ^ n - 1 + 1 ≡ 2 ^ n = omega (arith, pow_pos n) in
    let number : Spells per_fields (Numbered n (2 ^ n - 1) all) p.1 (bits n p.1 ++ r) r = record {
      chunks = ones (bits n p.1);
      spelt = record { fits = h.fits; same = refl };
      contents = contents-ones per_fields (bits n p.1);
      split = ap (λ t. t ++ r) (sym (flat-ones spelled (bits n p.1)));
    } in
    rw h.mark ((marked_leads n (2 ^ n - 1) all h.listed p.0 us (bits n p.1 ++ r) h.split (λ e. can_extend h.listed (h.some e))).done p.1 r (same_spells (same_flip (bitmaps_spelled n (2 ^ n - 1) all)) number))

-- ---- the presence bits of the additions, after their count

-- the bitmaps that are not all 0
abbrev pub not_zero : ℕ → NumberSet
not_zero high = record { low = 0; high = high; excluded = Some 0 }

module _ (n last : ℕ) (some : 0 < n) (few : n ≤ 64) (is : last + 1 ≡ n) where
  -- the count of the additions
  abbrev pub Counts : ℕ → List Chunk → Type 0
  Counts = Plain (InSet 7 (λ k. Admits (only last) k))

  same_count : Same Counts (AdditionCount n)
  same_count = same_set 2 7 (λ k h. omega (arith, h.0, h.1, is)) (λ k h. (omega (arith, h, is), omega (arith, h, is), tt))

  -- it, and presence bits
  additions_spelled : Same (Map after_first (Then (AdditionCount n) (λ _. SomePresent n))) (AdditionBitmapOf per_coding n)
  unfolding per_coding
  additions_spelled =
      same_after (same_map (same_after (same_then (set_spelled 7 (λ k. k + 1 ≡ n) (λ k h. omega (arith, h, few))) (λ _. set_spelled n (λ m. (0 < m) × (m < 2 ^ n)) (λ m h. h.1))) then_spelled)) (map_spelled there back)
    where
      there : (p : ℕ × ℕ) → (p.0 + 1 ≡ n) × ((0 < p.1) × (p.1 < 2 ^ n)) → ((0 < p.1) × (p.1 < 2 ^ n)) × (ones (bits 7 p.0) ++ ones (bits n p.1) ≡ ones (small_length (length (bits n p.1)) ++ bits n p.1))
      there p h = (
        h.1,
        ap (λ (l : List ℕ). ones l ++ ones (bits n p.1)) (count_bits n p.0 few h.0) ∙ sym (ones-append (small_length n) (bits n p.1)) ∙ ap (λ (i : ℕ). ones (small_length i ++ bits n p.1)) (sym (length-digits 2 n p.1)),
      )

      back : (m : ℕ) → (0 < m) × (m < 2 ^ n) → (p : ℕ × ℕ) × ((p.0 + 1 ≡ n) × ((0 < p.1) × (p.1 < 2 ^ n))) × (m ≡ p.1)
      back m h = ((last, m), (is, h), refl)

  -- more than one bitmap is there
  two : 1 < 2 ^ n
  two = omega (arith, some, lt-two_pow n)

  whole_bitmap : (us : List ℕ) → Leads per_fields (Then (AdditionCount n) (λ _. SomePresent n)) us after_first (AdditionBitmapOf per_coding n) us
  whole_bitmap us = leads_on (leads_map per_fields after_first (Then (AdditionCount n) (λ _. SomePresent n)) us) (leads_same per_fields us additions_spelled)

  -- within the count
  pub count_stops : (us : List ℕ) → LeadsStops per_fields Counts us (AdditionBitmapOf per_coding n) us
  count_stops us =
      stops_on (leads_same per_fields us same_count).stops (stops_on (stops_first per_fields us (record { follow = λ k cs h. set_inhabited (set_meets 2 n 1 (omega arith, omega (arith, two)) two) })) (whole_bitmap us).stops)

  module _ (high : ℕ) (all : high + 1 ≡ 2 ^ n) where
    -- the presence bits
    abbrev pub Presences : ℕ → List Chunk → Type 0
    Presences = Plain (InSet n (λ m. Admits (not_zero high) m))

    same_presences : Same Presences (SomePresent n)
    same_presences = same_set 2 n (λ m h. (omega (arith, h.2), omega (arith, h.1, all))) (λ m h. (omega arith, omega (arith, h.1, all), λ e. omega (arith, h.0, e)))

    -- some bitmap is one
    pub some_present : Meets (λ m. Admits (not_zero high) m) 0 n
    some_present = set_meets 2 n 1 (omega arith, omega (arith, two, all), λ e. omega (arith, e)) two

    -- after the count
    pub bitmap_leads : (k : ℕ) (us r : List ℕ) → Spells per_fields Counts k us r → Leads per_fields Presences r (λ m. m) (AdditionBitmapOf per_coding n) us
    bitmap_leads k us r h =
        leads_on (leads_same per_fields r same_presences) (leads_on (leads_second {M = λ _. SomePresent n} per_fields_part (set_lawful 2 7 (λ k. k + 1 ≡ n)) (same_spells same_count h)) (whole_bitmap us))
