-- Lists under a size in PER are put together from their count and their items, whatever the items are.
use Rattle.std.proofs.Common.{◌≡◌, ◌≤◌, ◌<◌, ◌+◌, ◌-◌, ◌⊎◌, inl, inr, ℕ, suc, Bool, true, false, List, [], ◌++◌, map, length, Option, Some, None, nat_le, nat_lt, refl, sym, ap, subst, ◌∙◌, arith}
use Rattle.std.proofs.lemmas.Bool.{and_parts, leb-true, le-leb, ltb-false, lt-ltb}
use Rattle.std.proofs.lemmas.List.{length-map}
use Rattle.std.specs.List.{AllByRecursion}
use Rattle.asn_values.specs.Shape.{SizeRange}
use Rattle.asn_values.specs.Fits.{FitsLength, max_len, in_size}
use Rattle.asn_values.specs.Profile.{size_above, large_size, largest_size_bound, is_large}
use Rattle.asn_values.proofs.Parts.{right_false}
use Rattle.asn_bits.specs.Numbers.{bits, width}
use Rattle.asn_bits.specs.Lengths.{joined, general}
use Rattle.asn_rules.specs.Chunks.{Chunk, one, ones}
use Rattle.asn_rules.specs.Languages.{Lawful, Row}
use Rattle.asn_rules.specs.Forks.{Same}
use Rattle.asn_rules.specs.Spellings.{SpelledBy, FitsEither, either_code}
use Rattle.asn_rules.proofs.Numbers.Fragments.{same_general, general_spelled}
use Rattle.asn_rules.proofs.Languages.Spellings.{same_after, same_then, same_map, same_row, same_fork, same_spelled, then_spelled, map_spelled, row_spelled, fork_spelled}
use Rattle.asn_per.specs.Per.{constrained, within, sized}
use Rattle.asn_per.specs.Kinds.{of_either, IsOtherCount, CountWithin, RootForm, RootSized, Sized}
use Rattle.asn_per.proofs.Types.BooleanAndNull.{below_spelled}

-- ---- sizes of the profile

-- the bounds are in order, and no larger than the profile has them
pub record IsGoodSize (s : SizeRange) : Type 0 where
  pub ordered : size_above s ≡ false
  pub small : large_size (Some s) ≡ false

-- a high bound is within the profile's limit
high_within : (low high : ℕ) (m : Bool) → IsGoodSize (record { low = low; high = Some high; extensible = m }) → (low ≤ high) × (high ≤ max_len)
high_within low high m good = (
  ltb-false high low good.ordered,
  omega (arith, ltb-false largest_size_bound high (right_false (nat_lt largest_size_bound low) (is_large (Some high)) good.small)),
)

-- what is said of a size is said of its root
root_good : (low : ℕ) (high : Option ℕ) (m : Bool) → IsGoodSize (record { low = low; high = high; extensible = m }) → IsGoodSize (record { low = low; high = high; extensible = false })
root_good low (Some high) m good = record { ordered = good.ordered; small = good.small }
root_good low None m good = record { ordered = good.ordered; small = good.small }

-- ---- the same items

-- lists in the root, of items of the same spellings
same_form : {A : Type 0} {K L : A → List Chunk → Type 0} → Same K L → (b : Bool) (low high : ℕ) → Same (RootForm b low high K) (RootForm b low high L)
same_form e true low high = same_map (same_then (record { to = λ v cs h. h; from = λ v cs h. h }) (λ n. same_row e n))
same_form e false low high = same_general e (λ n. (low ≤ n) × (n ≤ high))

same_root_sized : {A : Type 0} {K L : A → List Chunk → Type 0} → Same K L → (low : ℕ) (high : Option ℕ) → Same (RootSized low high K) (RootSized low high L)
same_root_sized e low (Some high) = same_form e (nat_lt high 65536) low high
same_root_sized e low None = same_form e false low max_len

-- lists under a size, of items of the same spellings
pub same_sized : {A : Type 0} {K L : A → List Chunk → Type 0} → Same K L → (s : SizeRange) → Same (Sized s K) (Sized s L)
same_sized {A} {K} {L} e s = go s.low s.high s.extensible
  where
    go : (low : ℕ) (high : Option ℕ) (m : Bool) → Same (Sized (record { low = low; high = high; extensible = m }) K) (Sized (record { low = low; high = high; extensible = m }) L)
    go low high false = same_root_sized e low high
    go low high true = same_map (same_fork (same_root_sized e low high) (same_general e (IsOtherCount (record { low = low; high = high; extensible = true }))))

-- ---- counts

-- a count between the bounds
count_spelled : (low high : ℕ) → low ≤ high → Same (CountWithin low high) (SpelledBy (λ n. (low ≤ n) × (n ≤ high)) (λ n. ones (constrained (suc (high - low)) (n - low))))
count_spelled low high o = same_after (same_map (below_spelled (suc (high - low)))) (map_spelled there back)
  where
    there : (k : ℕ) → k < suc (high - low) → ((low ≤ low + k) × (low + k ≤ high)) × (ones (constrained (suc (high - low)) k) ≡ ones (constrained (suc (high - low)) (low + k - low)))
    there k h = let e : k ≡ low + k - low = omega arith in ((omega arith, omega arith), ap (λ (i : ℕ). ones (constrained (suc (high - low)) i)) e)

    back : (n : ℕ) → (low ≤ n) × (n ≤ high) → (k : ℕ) × (k < suc (high - low)) × (n ≡ low + k)
    back n h = (n - low, omega (arith, h.0, h.1), omega (arith, h.0))

-- where the bounds are one, the count has no bits
no_count_bits : (n m : ℕ) → constrained (suc (n - n)) m ≡ []
no_count_bits n m = let none : n - n ≡ 0 = omega arith in ap (λ (k : ℕ). bits (width (suc k)) m) none

-- that many items in a row, and no count
fixed_form : {A : Type 0} (L : A → List Chunk → Type 0) (n : ℕ) → Same (Row L n) (RootForm true n n L)
fixed_form {A} L n = record {
  to = λ vs cs h. record {
    source = (n, vs);
    spelt = record { first = []; second = cs; spelt = (count_spelled n n (omega arith)).from n [] (record { fits = (omega arith, omega arith); same = ap ones (sym (no_count_bits n (n - n))) }); follows = h; whole = refl };
    seen = refl;
  };
  from = λ vs cs h.
      let c = (count_spelled n n (omega arith)).to h.source.0 h.spelt.first h.spelt.spelt in
      let count : h.source.0 ≡ n = omega (arith, c.fits.0, c.fits.1) in
      let none : h.spelt.first ≡ [] = c.same ∙ ap ones (no_count_bits n (h.source.0 - n)) in
      let same : cs ≡ h.spelt.second = h.spelt.whole ∙ ap (λ (l : List Chunk). l ++ h.spelt.second) none in
      subst (λ (l : List Chunk). Row L n vs l) (sym same) (subst (λ (ws : List A). Row L n ws h.spelt.second) (sym h.seen) (subst (λ (k : ℕ). Row L k h.source.1 h.spelt.second) count h.spelt.follows));
}

pub fixed_sized : {A : Type 0} (L : A → List Chunk → Type 0) (n : ℕ) → n < 65536 → Same (Row L n) (RootSized n (Some n) L)
fixed_sized L n few = subst (λ (b : Bool). Same (Row L n) (RootForm b n n L)) (sym (lt-ltb n 65536 few)) (fixed_form L n)

-- ---- lists of items that are spelt by a function

module _ {A : Type 0} (P : A → Type 0) (code : A → List Chunk) where
  -- lists that fit a size
  abbrev pub FitSize : SizeRange → List A → Type 0
  FitSize s vs = FitsLength s (length vs) × AllByRecursion P vs

  -- a count, and as many items
  bounded_spelled : (low high : ℕ) → low ≤ high → Same (RootForm true low high (SpelledBy P code))
      (SpelledBy (λ vs. ((low ≤ length vs) × (length vs ≤ high)) × AllByRecursion P vs) (λ vs. ones (constrained (suc (high - low)) (length (map code vs) - low)) ++ joined (map code vs)))
  bounded_spelled low high o = same_after (same_map (same_after (same_then (count_spelled low high o) (λ n. row_spelled n)) then_spelled)) (map_spelled there back)
    where
      count_bits : ℕ → List Chunk
      count_bits n = ones (constrained (suc (high - low)) (n - low))

      there : (p : ℕ × List A) → ((low ≤ p.0) × (p.0 ≤ high)) × ((length p.1 ≡ p.0) × AllByRecursion P p.1)
          → (((low ≤ length p.1) × (length p.1 ≤ high)) × AllByRecursion P p.1) × (ones (constrained (suc (high - low)) (p.0 - low)) ++ joined (map code p.1) ≡ ones (constrained (suc (high - low)) (length (map code p.1) - low)) ++ joined (map code p.1))
      there p h = (
        ((omega (arith, h.0.0, h.1.0), omega (arith, h.0.1, h.1.0)), h.1.1),
        ap (λ (n : ℕ). ones (constrained (suc (high - low)) (n - low)) ++ joined (map code p.1)) (sym h.1.0 ∙ sym (length-map p.1 code)),
      )

      back : (vs : List A) → ((low ≤ length vs) × (length vs ≤ high)) × AllByRecursion P vs → (p : ℕ × List A) × (((low ≤ p.0) × (p.0 ≤ high)) × ((length p.1 ≡ p.0) × AllByRecursion P p.1)) × (vs ≡ p.1)
      back vs h = ((length vs, vs), (h.0, (refl, h.1)), refl)

  module _ (law : Lawful (SpelledBy P code)) where
    -- lists in the root
    pub root_sized_spelled : (low : ℕ) (high : Option ℕ) → IsGoodSize (record { low = low; high = high; extensible = false })
        → Same (RootSized low high (SpelledBy P code)) (SpelledBy (FitSize (record { low = low; high = high; extensible = false })) (λ vs. within low high (map code vs)))
    root_sized_spelled low (Some high) good = go (nat_lt high 65536)
      where
        o : (low ≤ high) × (high ≤ max_len)
        o = high_within low high false good

        Within : List A → Type 0
        Within vs = ((low ≤ length vs) × (length vs ≤ high)) × AllByRecursion P vs

        fits : (vs : List A) → Within vs → FitSize (record { low = low; high = Some high; extensible = false }) vs
        fits vs h = ((omega (arith, h.0.1, o.1), rw (le-leb low (length vs) h.0.0, le-leb (length vs) high h.0.1) refl), h.1)

        inside : (vs : List A) → FitSize (record { low = low; high = Some high; extensible = false }) vs → Within vs
        inside vs h = (let w = and_parts (nat_le low (length vs)) (nat_le (length vs) high) h.0.1 in ((leb-true low (length vs) w.0, leb-true (length vs) high w.1), h.1))

        go : (b : Bool) → Same (RootForm b low high (SpelledBy P code))
            (SpelledBy (FitSize (record { low = low; high = Some high; extensible = false })) (λ vs. elim b [ true ↦ ones (constrained (suc (high - low)) (length (map code vs) - low)) ++ joined (map code vs) | false ↦ general one (map code vs) ]))
        go true = same_after (bounded_spelled low high o.0) (same_spelled fits inside (λ vs h. refl))
        go false = same_after (general_spelled P code law (λ n. (low ≤ n) × (n ≤ high))) (same_spelled fits inside (λ vs h. refl))
    root_sized_spelled low None good = same_after (general_spelled P code law (λ n. (low ≤ n) × (n ≤ max_len))) (same_spelled
        (λ vs h. ((h.0.1, rw (le-leb low (length vs) h.0.0) refl), h.1))
        (λ vs h. (let w = and_parts (nat_le low (length vs)) true h.0.1 in ((leb-true low (length vs) w.0, h.0.0), h.1)))
        (λ vs h. refl))

    -- lists under a size with an extension mark
    marked_spelled : (low : ℕ) (high : Option ℕ) → IsGoodSize (record { low = low; high = high; extensible = true })
        → Same (Sized (record { low = low; high = high; extensible = true }) (SpelledBy P code)) (SpelledBy (FitSize (record { low = low; high = high; extensible = true })) (λ vs. sized (record { low = low; high = high; extensible = true }) (map code vs)))
    marked_spelled low high good =
        same_after (same_map (same_after (same_fork (root_sized_spelled low high (root_good low high true good)) (general_spelled P code law (IsOtherCount s))) fork_spelled)) (map_spelled there back)
      where
        s : SizeRange
        s = record { low = low; high = high; extensible = true }

        there : (w : List A ⊎ List A) → FitsEither (FitSize (record { low = low; high = high; extensible = false })) (λ vs. IsOtherCount s (length vs) × AllByRecursion P vs) w
            → FitSize s (of_either w) × (either_code (λ vs. within low high (map code vs)) (λ vs. general one (map code vs)) w ≡ sized s (map code (of_either w)))
        there (inl vs) h = (((h.0.0, refl), h.1), rw (length-map vs code, h.0.1) refl)
        there (inr vs) h = (((h.0.most, refl), h.1), rw (length-map vs code, h.0.outside) refl)

        back : (vs : List A) → FitSize s vs → (w : List A ⊎ List A) × FitsEither (FitSize (record { low = low; high = high; extensible = false })) (λ vs. IsOtherCount s (length vs) × AllByRecursion P vs) w × (vs ≡ of_either w)
        back vs h = go (in_size s (length vs)) refl
          where
            go : (b : Bool) → in_size s (length vs) ≡ b → (w : List A ⊎ List A) × FitsEither (FitSize (record { low = low; high = high; extensible = false })) (λ vs. IsOtherCount s (length vs) × AllByRecursion P vs) w × (vs ≡ of_either w)
            go true e = (inl vs, ((h.0.0, e), h.1), refl)
            go false e = (inr vs, (record { most = h.0.0; outside = e }, h.1), refl)

    -- lists under a size
    pub sized_spelled : (s : SizeRange) → IsGoodSize s → Same (Sized s (SpelledBy P code)) (SpelledBy (FitSize s) (λ vs. sized s (map code vs)))
    sized_spelled s good = go s.low s.high s.extensible good
      where
        go : (low : ℕ) (high : Option ℕ) (m : Bool) → IsGoodSize (record { low = low; high = high; extensible = m })
            → Same (Sized (record { low = low; high = high; extensible = m }) (SpelledBy P code)) (SpelledBy (FitSize (record { low = low; high = high; extensible = m })) (λ vs. sized (record { low = low; high = high; extensible = m }) (map code vs)))
        go low high false good = root_sized_spelled low high good
        go low high true good = marked_spelled low high good
