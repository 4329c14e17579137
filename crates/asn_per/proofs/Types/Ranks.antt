-- Each index below the count of the items of an ENUMERATED is the index of one item, which is found by it.
use Rattle.std.proofs.Common.{◌≡◌, ◌≤◌, ◌<◌, ◌+◌, ◌-◌, ◌==◌, ◌⊎◌, ℕ, zero, suc, ℤ, Bool, true, false, List, [], ◌∷◌, length, inl, inr, refl, sym, ap, subst, ◌∙◌, arith}
use Rattle.std.proofs.lemmas.Bool.{true≢false, eqb-true, eq-eqb, cases_lt, or_parts}
use Rattle.std.specs.Int.RustNames.{int_lt}
use Rattle.asn_values.specs.Shape.{Label}
use Rattle.asn_values.specs.Profile.{int_eq, has_twice}
use Rattle.asn_bits.specs.Numbers.{least_from}
use Rattle.asn_bits.proofs.Octets.{least_from_below}
use Rattle.asn_rules.specs.Components.{number_at}
use Rattle.asn_rules.proofs.Law.Items.{numbers, one_place}
use Rattle.asn_per.specs.Per.{rank}
use Rattle.asn_per.specs.Kinds.{position_of}
use Rattle.asn_per.proofs.Law.Enumerations.{compare, rank_yes, rank_no, rank_rises, rank_below, rank_le, rank_inside, rank_once, lt_not_self, lt_also}

-- the least number that passes a test passes it, where one within reach does
least_holds : (test : ℕ → Bool) (few start k : ℕ) → start ≤ k → k ≤ start + few → test k ≡ true → test (least_from test few start) ≡ true
least_holds test zero start k a b h = subst (λ (i : ℕ). test i ≡ true) (omega arith) h
least_holds test (suc few) start k a b h = go (test start) refl (λ c. least_holds test few (suc start) k c (omega arith) h)
  where
    go : (b : Bool) → test start ≡ b → (suc start ≤ k → test (least_from test few (suc start)) ≡ true) → test (least_from test (suc few) start) ≡ true
    go true e later = rw (e, least_from) e
    go false e later = rw (e, least_from) (later (further (cases_lt start k)))
      where
        further : (start < k) ⊎ (k ≤ start) → suc start ≤ k
        further (inl l) = omega arith
        further (inr l) = absurd (let same : start ≡ k = omega arith in true≢false (sym h ∙ ap test (sym same) ∙ e))

-- some item has the index
record HasIndex (ls : List Label) (n : ℕ) : Type 0 where
  place : ℕ
  inside : place < length ls
  index : rank ls (number_at ls place) ≡ n

-- an item after the first is below it, or above it
first_differs : (l : Label) (ls : List Label) (p : ℕ) → has_twice int_eq (numbers (l ∷ ls)) ≡ false → p < length ls → (int_lt l.number (number_at ls p) ≡ true) ⊎ (int_lt (number_at ls p) l.number ≡ true)
first_differs l ls p d h = elim (compare l.number (number_at ls p)) [
  | inl a ↦ inl a
  | inr (inl a) ↦ absurd (let e : 0 ≡ suc p = one_place (l ∷ ls) 0 (suc p) d (omega arith) (omega arith) a in omega arith)
  | inr (inr a) ↦ inr a
]

-- no number is below one that is below it
not_above : (l : Label) (z : ℤ) → int_lt z l.number ≡ true → int_lt l.number z ≡ false
not_above l z h = go (int_lt l.number z) refl
  where
    go : (b : Bool) → int_lt l.number z ≡ b → b ≡ false
    go true e = absurd (true≢false (sym (lt_also l.number z l.number e h) ∙ lt_not_self l.number))
    go false e = refl

-- each index below the count is that of some item
has_index : (ls : List Label) → has_twice int_eq (numbers ls) ≡ false → (n : ℕ) → n < length ls → HasIndex ls n
has_index [] d n h = absurd (omega arith)
has_index (l ∷ ls) d n h = go (λ m k. has_index ls (or_parts _ _ d).1 m k) (cases_lt n r)
  where
    r : ℕ
    r = rank ls l.number

    -- an item below the first keeps its index
    below : (i : HasIndex ls n) → n < r → (int_lt l.number (number_at ls i.place) ≡ true) ⊎ (int_lt (number_at ls i.place) l.number ≡ true) → HasIndex (l ∷ ls) n
    below i k (inr a) = record { place = suc i.place; inside = omega (arith, i.inside); index = rank_no l ls (number_at ls i.place) (not_above l (number_at ls i.place) a) ∙ i.index }
    below i k (inl a) = absurd (omega (arith, rank_rises ls l.number (number_at ls i.place) a, i.index))

    -- one above it has the next
    above : (i : HasIndex ls (n - 1)) → r < n → (int_lt l.number (number_at ls i.place) ≡ true) ⊎ (int_lt (number_at ls i.place) l.number ≡ true) → HasIndex (l ∷ ls) n
    above i k (inl a) = record { place = suc i.place; inside = omega (arith, i.inside); index = omega (arith, rank_yes l ls (number_at ls i.place) a, i.index) }
    above i k (inr a) = absurd (omega (arith, rank_below ls i.place l.number i.inside a, i.index))

    go : ((m : ℕ) → m < length ls → HasIndex ls m) → (n < r) ⊎ (r ≤ n) → HasIndex (l ∷ ls) n
    go again (inl k) = let i = again n (omega (arith, rank_le ls l.number)) in below i k (first_differs l ls i.place d i.inside)
    go again (inr k) = more (cases_lt r n)
      where
        more : (r < n) ⊎ (n ≤ r) → HasIndex (l ∷ ls) n
        more (inl j) = let i = again (n - 1) (omega arith) in above i j (first_differs l ls i.place d i.inside)
        more (inr j) = record { place = 0; inside = omega arith; index = omega (arith, rank_no l ls l.number (lt_not_self l.number)) }

module _ (ls : List Label) (once : has_twice int_eq (numbers ls) ≡ false) where
  -- what is found by an index is an item, which has it
  pub place_there : (n : ℕ) → n < length ls → (position_of ls n < length ls) × (rank ls (number_at ls (position_of ls n)) ≡ n)
  place_there n h =
      let i = has_index ls once n h in
      let found : (rank ls (number_at ls i.place) == n) ≡ true = subst (λ (k : ℕ). (k == n) ≡ true) (sym i.index) (eq-eqb n n refl) in
      let last : i.place ≤ length ls = omega (arith, i.inside) in
      (omega (arith, least_from_below (λ p. rank ls (number_at ls p) == n) (length ls) 0 i.place (omega arith) found, i.inside), eqb-true (rank ls (number_at ls (position_of ls n))) n (least_holds (λ p. rank ls (number_at ls p) == n) (length ls) 0 i.place (omega arith) (omega (arith, last)) found))

  -- an item is found by its index
  pub place_back : (p : ℕ) → p < length ls → position_of ls (rank ls (number_at ls p)) ≡ p
  place_back p h =
      let w = place_there (rank ls (number_at ls p)) (rank_inside ls p h) in
      rank_once ls (position_of ls (rank ls (number_at ls p))) p once w.0 h w.1
