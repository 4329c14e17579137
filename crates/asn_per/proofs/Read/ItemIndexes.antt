-- How the program finds the index of an item and the item of an index.
use Rattle.std.proofs.Common.{◌≡◌, ◌≢◌, ◌≤◌, ◌<◌, ◌+◌, ◌⊎◌, ◌-ℤ◌, inl, inr, ℕ, ℤ, pos, negsuc, Bool, true, false, List, length, refl, sym, ap, subst, ◌∙◌, arith}
use Rattle.std.proofs.lemmas.Bool.{true≢false, lt-ltb}
use Rattle.std.proofs.lemmas.Int.{ints}
use Rattle.std.specs.Int.RustNames.{int_lt}
use Rattle.asn_values.specs.Shape.{Label}
use Rattle.asn_values.specs.Profile.{is_not_32_bits}
use Rattle.asn_rules.specs.Components.{number_at}
use Rattle.asn_per.specs.Per.{rank}
use Rattle.asn_per.specs.Kinds.{position_of}
use Rattle.asn_per.specs.Indexes.{AreRootItems}
use Rattle.asn_per.proofs.Law.Enumerations.{compare, rank_rises, rank_below}
use Rattle.asn_per.proofs.Types.Ranks.{place_there, place_back}
use Rattle.asn_plan.proofs.RootItems.{number_small, near_above, near_below}

-- the number before another is below what is not below that
pub just_below : (y z x : ℤ) → y ≡ z -ℤ pos 1 → int_lt x z ≡ false → int_lt y x ≡ true
just_below y z x e h = grind (arith, ints)

-- ---- the item of an index

-- of the items from a position on one has the index, and its number lies between these two
pub record IsSought (ls : List Label) (index from : ℕ) (above below : ℤ) : Type 0 where
  pub ahead : from ≤ position_of ls index
  pub over : int_lt above (number_at ls (position_of ls index)) ≡ true
  pub under : int_lt (number_at ls (position_of ls index)) below ≡ true

module _ (ls : List Label) (good : AreRootItems ls) (index : ℕ) (inside : index < length ls) where
  there : (position_of ls index < length ls) × (rank ls (number_at ls (position_of ls index)) ≡ index)
  there = place_there ls good.once index inside

  -- before the first item
  pub sought_starts : IsSought ls index 0 (negsuc 9223372036854775807) (pos 9223372036854775807)
  sought_starts =
      let small = number_small ls (position_of ls index) good.narrow there.0 in
      record { ahead = omega arith; over = over (number_at ls (position_of ls index)) small; under = under (number_at ls (position_of ls index)) small }
    where
      over : (z : ℤ) → is_not_32_bits z ≡ false → int_lt (negsuc 9223372036854775807) z ≡ true
      over (pos n) e = refl
      over (negsuc n) e = lt-ltb n 9223372036854775807 (omega (arith, near_below n e))

      under : (z : ℤ) → is_not_32_bits z ≡ false → int_lt z (pos 9223372036854775807) ≡ true
      under (pos n) e = lt-ltb n 9223372036854775807 (omega (arith, near_above n e))
      under (negsuc n) e = refl

  -- an item that has the index is the one
  pub sought_found : (p : ℕ) → p < length ls → rank ls (number_at ls p) ≡ index → p ≡ position_of ls index
  sought_found p h e = sym (place_back ls good.once p h) ∙ ap (position_of ls) e

  module _ (p : ℕ) (a b : ℤ) (s : IsSought ls index p a b) where
    -- past an item that is not the one
    past : p ≢ position_of ls index → p + 1 ≤ position_of ls index
    past n = let k = s.ahead in omega (arith, n)

    -- an item that lies not above the lower number
    pub sought_not_above : int_lt a (number_at ls p) ≡ false → IsSought ls index (p + 1) a b
    sought_not_above e = record { ahead = past (λ f. true≢false (sym s.over ∙ subst (λ (q : ℕ). int_lt a (number_at ls q) ≡ false) f e)); over = s.over; under = s.under }

    -- nor one that lies not below the higher one
    pub sought_not_below : int_lt (number_at ls p) b ≡ false → IsSought ls index (p + 1) a b
    sought_not_below e = record { ahead = past (λ f. true≢false (sym s.under ∙ subst (λ (q : ℕ). int_lt (number_at ls q) b ≡ false) f e)); over = s.over; under = s.under }

    -- an item with another index is not the one
    other : rank ls (number_at ls p) ≢ index → p ≢ position_of ls index
    other n e = n (ap (λ (q : ℕ). rank ls (number_at ls q)) e ∙ there.1)

    -- one with a lower index has a lower number
    pub sought_above : rank ls (number_at ls p) < index → IsSought ls index (p + 1) (number_at ls p) b
    sought_above h = record { ahead = past (other (λ e. omega arith)); over = over (compare (number_at ls p) (number_at ls (position_of ls index))); under = s.under }
      where
        over : (int_lt (number_at ls p) (number_at ls (position_of ls index)) ≡ true) ⊎ (number_at ls p ≡ number_at ls (position_of ls index)) ⊎ (int_lt (number_at ls (position_of ls index)) (number_at ls p) ≡ true)
            → int_lt (number_at ls p) (number_at ls (position_of ls index)) ≡ true
        over (inl e) = e
        over (inr (inl e)) = absurd (let f : rank ls (number_at ls p) ≡ index = ap (rank ls) e ∙ there.1 in omega arith)
        over (inr (inr e)) = absurd (omega (arith, rank_rises ls (number_at ls (position_of ls index)) (number_at ls p) e, there.1))

    -- one with a higher index has a higher number
    pub sought_below : index < rank ls (number_at ls p) → IsSought ls index (p + 1) a (number_at ls p)
    sought_below h = record { ahead = past (other (λ e. omega arith)); over = s.over; under = under (compare (number_at ls (position_of ls index)) (number_at ls p)) }
      where
        under : (int_lt (number_at ls (position_of ls index)) (number_at ls p) ≡ true) ⊎ (number_at ls (position_of ls index) ≡ number_at ls p) ⊎ (int_lt (number_at ls p) (number_at ls (position_of ls index)) ≡ true)
            → int_lt (number_at ls (position_of ls index)) (number_at ls p) ≡ true
        under (inl e) = e
        under (inr (inl e)) = absurd (let f : rank ls (number_at ls p) ≡ index = ap (rank ls) (sym e) ∙ there.1 in omega arith)
        under (inr (inr e)) = absurd (omega (arith, rank_rises ls (number_at ls p) (number_at ls (position_of ls index)) e, there.1))

    -- a number has more items below it than the index tells: it is above the one that is sought
    pub sought_under : (z : ℤ) → index < rank ls z → IsSought ls index p a z
    sought_under z h = record { ahead = s.ahead; over = s.over; under = under (compare (number_at ls (position_of ls index)) z) }
      where
        under : (int_lt (number_at ls (position_of ls index)) z ≡ true) ⊎ (number_at ls (position_of ls index) ≡ z) ⊎ (int_lt z (number_at ls (position_of ls index)) ≡ true)
            → int_lt (number_at ls (position_of ls index)) z ≡ true
        under (inl e) = e
        under (inr (inl e)) = absurd (let f : rank ls z ≡ index = ap (rank ls) (sym e) ∙ there.1 in omega arith)
        under (inr (inr e)) = absurd (omega (arith, rank_rises ls z (number_at ls (position_of ls index)) e, there.1))

    -- a number has not more items below it: the one that is sought is not below it, and so above what is below it
    pub sought_over : (y z : ℤ) → ((x : ℤ) → int_lt x z ≡ false → int_lt y x ≡ true) → rank ls z ≤ index → IsSought ls index p y b
    sought_over y z before h = record { ahead = s.ahead; over = before (number_at ls (position_of ls index)) (not_below (int_lt (number_at ls (position_of ls index)) z) refl); under = s.under }
      where
        not_below : (t : Bool) → int_lt (number_at ls (position_of ls index)) z ≡ t → t ≡ false
        not_below false e = refl
        not_below true e = absurd (omega (arith, rank_below ls (position_of ls index) z there.0 e, there.1))

    -- it comes before the last
    pub sought_ends : length ls ≤ p → ⊥
    sought_ends h = omega (arith, s.ahead, there.0)
