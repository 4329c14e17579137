-- An item is spelt by its index, whatever the numbers of the items are.
use Rattle.std.proofs.Common.{◌≡◌, ◌+◌, ◌-◌, ◌<◌, ◌≤◌, ◌⊎◌, ◌-ℤ◌, ℕ, suc, ℤ, pos, Bool, true, false, List, [], ◌∷◌, length, inl, inr, refl, sym, ap, subst, ◌∙◌, arith, nat_lt}
use Rattle.std.proofs.lemmas.Bool.{cases_lt, lt-ltb, le-ltb}
use Rattle.std.proofs.lemmas.Int.{ints}
use Rattle.std.specs.Int.RustNames.{int_lt}
use Rattle.asn_values.specs.Shape.{Label, MoreLabels, closed_labels, marked_labels, has_more_labels, more_labels, enumerated}
use Rattle.asn_rules.specs.Chunks.{ones}
use Rattle.asn_rules.specs.Components.{number_at}
use Rattle.asn_plan.specs.Enumerations.{AreInOrder}
use Rattle.asn_plan.specs.InOrder.{numbered, AreSpeltAs, SpellsIndexes}
use Rattle.asn_plan.proofs.Ordered.{Rise, in_order}
use Rattle.asn_plan.proofs.RootItems.{root_items}
use Rattle.asn_per.specs.Kinds.{position_of}
use Rattle.asn_per.specs.Per.{per, rank, constrained, small, after_mark, enumeration}
use Rattle.asn_per.specs.Walk.{per_coding}
use Rattle.asn_per.proofs.Law.Enumerations.{rank_inside}
use Rattle.asn_per.proofs.Types.Ranks.{place_there}

-- ---- numbers in the order in which the items are written

same_count : (n : ℕ) (ls : List Label) → length (numbered n ls) ≡ length ls
same_count n [] = refl
same_count n (l ∷ ls) = ap suc (same_count (suc n) ls)

rising : (n : ℕ) → int_lt (pos n -ℤ pos 2147483648) (pos (suc n) -ℤ pos 2147483648) ≡ true
rising n = grind (arith, ints)

rise : (n : ℕ) (z : ℤ) (ls : List Label) → int_lt z (pos n -ℤ pos 2147483648) ≡ true → Rise z (numbered n ls)
rise n z [] h = tt
rise n z (l ∷ ls) h = (h, rise (suc n) (pos n -ℤ pos 2147483648) ls (rising n))

-- the index of each is its position
placed : (ls : List Label) → AreInOrder (numbered 0 ls)
placed ls = in_order (pos 0 -ℤ pos 2147483649) (numbered 0 ls) (rise 0 (pos 0 -ℤ pos 2147483649) ls (grind (arith, ints)))

-- ---- spellings

-- an item of the root is spelt by its index and the count of these
by_index : (root others : List Label) (more : MoreLabels) (p q : ℕ) → length root ≡ length others → p < length root
    → q < length others → rank root (number_at root p) ≡ rank others (number_at others q)
    → enumeration root more p ≡ enumeration others more q
by_index root others more p q same hp hq e =
    go (has_more_labels more)
  where
    bits : constrained (length root) (rank root (number_at root p)) ≡ constrained (length others) (rank others (number_at others q))
    bits = ap (λ (n : ℕ). constrained n (rank root (number_at root p))) same ∙ ap (constrained (length others)) e

    go : (m : Bool) → after_mark (λ (u : ℕ). u) m (nat_lt p (length root)) (constrained (length root) (rank root (number_at root p))) (small (p - length root))
        ≡ after_mark (λ (u : ℕ). u) m (nat_lt q (length others)) (constrained (length others) (rank others (number_at others q))) (small (q - length others))
    go false = bits
    go true = rw (lt-ltb p (length root) hp, lt-ltb q (length others) hq) (ap (λ (us : List ℕ). 0 ∷ us) bits)

-- an addition is spelt by its index among these
as_addition : (root others : List Label) (more : MoreLabels) (p : ℕ) → length root ≡ length others → length root ≤ p
    → p < length root + length (more_labels more) → enumeration root more p ≡ enumeration others more p
as_addition root others closed_labels p same h few = absurd (omega (arith, h, few))
as_addition root others (marked_labels ls) p same h few =
    rw (le-ltb p (length root) h, le-ltb p (length others) (subst (λ (n : ℕ). n ≤ p) same h)) (ap (λ (n : ℕ). 1 ∷ small (p - n)) same)

-- an item with the same index, or the same addition
spelt_as : (root others : List Label) (more : MoreLabels) → length root ≡ length others
    → ((p : ℕ) → p < length root → (q : ℕ) × (q < length others) × (rank root (number_at root p) ≡ rank others (number_at others q)))
    → AreSpeltAs per (enumerated root more) (enumerated others more)
spelt_as root others more same one p fits = go (cases_lt p (length root))
  where
    go : (p < length root) ⊎ (length root ≤ p)
        → (q : ℕ) × (q < length others + length (more_labels more)) × (ones (enumeration root more p) ≡ ones (enumeration others more q))
    go (inl h) =
        let w = one p h in
        (w.0, omega (arith, w.1), ap ones (by_index root others more p w.0 same h w.1 w.2))
    go (inr h) = (p, omega (arith, fits, same), ap ones (as_addition root others more p same h fits))

pub indexes_spelt : SpellsIndexes per_coding.code
unfolding per_coding
indexes_spelt root more good =
    let items = root_items root more good in
    let count : length root ≡ length (numbered 0 root) = sym (same_count 0 root) in (
      spelt_as root (numbered 0 root) more count (λ p h. (
          let inside = rank_inside root p h in
          let there : rank root (number_at root p) < length (numbered 0 root) = subst (λ (n : ℕ). rank root (number_at root p) < n) count inside in
          (rank root (number_at root p), there, sym (placed root (rank root (number_at root p)) there)))),
      spelt_as (numbered 0 root) root more (sym count) (λ p h. (
          let inside : p < length root = subst (λ (n : ℕ). p < n) (sym count) h in
          let w = place_there root items.once p inside in
          (position_of root p, w.0, placed root p h ∙ sym w.1))),
    )
