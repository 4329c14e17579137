-- Normally small numbers below a count have one of two forms, told by the bit in front.
use Rattle.std.proofs.Common.{◌≡◌, ◌≤◌, ◌<◌, ◌⊎◌, ◌/◌, ◌%◌, ◌^◌, inl, inr, ℕ, Bool, true, false, nat_lt, List, ◌∷◌, refl, sym, ap, ◌∙◌, arith}
use Rattle.std.proofs.lemmas.Bool.{lt-ltb, le-ltb, ltb-true, ltb-false}
use Rattle.asn_bits.specs.Numbers.{bits, octet_count}
use Rattle.asn_bits.proofs.Octets.{octet_count_some, octet_count_below}
use Rattle.asn_bits.proofs.Weights.{bits_are, bits_only}
use Rattle.asn_rules.specs.Chunks.{Chunk, ones}
use Rattle.asn_rules.specs.Counted.{Counted, number_of, Least}
use Rattle.asn_rules.specs.Forks.{Branch, Fork, Same}
use Rattle.asn_rules.specs.Languages.{Lawful}
use Rattle.asn_rules.specs.Spellings.{SpelledBy, FitsEither, either_code}
use Rattle.asn_rules.proofs.Languages.Forks.{map_lawful_on, same_flip, fork_lawful}
use Rattle.asn_rules.proofs.Languages.Spellings.{same_after, same_map, same_fork, same_spelled, set_spelled, plain_spelled, map_spelled, fork_spelled}
use Rattle.asn_rules.proofs.Numbers.CountedCodes.{counted_lawful, counted_bits}
use Rattle.asn_rules.proofs.Numbers.Sets.{set_lawful}
use Rattle.asn_per.specs.Per.{small, semi_constrained}
use Rattle.asn_per.specs.Kinds.{Below, SmallBelow, LargeBelow, of_either}

-- ---- as they are written

-- a normally small number below 64
pub small_is : (k : ℕ) → k < 64 → small k ≡ bits 7 k
small_is k h =
    let front : 0 ≡ (k / 2 ^ 6) % 2 = omega (arith, h) in
    rw (lt-ltb k 64 h, small) (ap (λ (d : ℕ). d ∷ bits 6 k) front)

-- and from 64 on
pub large_is : (k : ℕ) → 64 ≤ k → small k ≡ 1 ∷ semi_constrained k
large_is k h = rw (le-ltb k 64 h, small) refl

-- ---- as a language

-- the numbers of the two forms
abbrev IsShort : ℕ → ℕ → Type 0
IsShort values k = (k < 64) × (k < values)

abbrev pub IsLarge : ℕ → ℕ → Type 0
IsLarge values k = (64 ≤ k) × (k < values)

-- those of 6 bits
short_spelled : (values : ℕ) → Same (Below 6 values) (SpelledBy (IsShort values) (λ k. ones (bits 6 k)))
short_spelled values =
    plain_spelled (λ k us h. (let w = bits_only 6 k us h.digits in ((w.0, h.member), w.1))) (λ k p. record { digits = bits_are 6 k p.0; member = p.1 })

-- an octet holds those below 256
pub one_octet : (k : ℕ) → k < 256 → octet_count k ≡ 1
one_octet k h = omega (arith, octet_count_some k, octet_count_below k 1 (omega arith) h)

large_spelled : (values : ℕ) → values ≤ 256 → Same (LargeBelow values) (SpelledBy (IsLarge values) (λ k. ones (semi_constrained k)))
large_spelled values few = counted_bits (IsLarge values) (λ k h. omega (arith, one_octet k (omega (arith, few, h.1))))

-- both
pub small_spelled : (values : ℕ) → values ≤ 256 → Same (SmallBelow values) (SpelledBy (λ k. k < values) (λ k. ones (small k)))
small_spelled values few = same_after (same_map (same_after (same_fork (short_spelled values) (large_spelled values few)) fork_spelled)) (map_spelled there back)
  where
    there : (w : ℕ ⊎ ℕ) → FitsEither (IsShort values) (IsLarge values) w
        → (of_either w < values) × (either_code (λ k. ones (bits 6 k)) (λ k. ones (semi_constrained k)) w ≡ ones (small (of_either w)))
    there (inl k) h = (h.1, rw (lt-ltb k 64 h.0, small) refl)
    there (inr k) h = (h.1, rw (le-ltb k 64 h.0, small) refl)

    back : (k : ℕ) → k < values → (w : ℕ ⊎ ℕ) × FitsEither (IsShort values) (IsLarge values) w × (k ≡ of_either w)
    back k h = go (nat_lt k 64) refl
      where
        go : (b : Bool) → nat_lt k 64 ≡ b → (w : ℕ ⊎ ℕ) × FitsEither (IsShort values) (IsLarge values) w × (k ≡ of_either w)
        go true e = (inl k, (ltb-true k 64 e, h), refl)
        go false e = (inr k, (ltb-false k 64 e, h), refl)

-- those below a count of at most 64 are numbers in 7 bits, of which the first is 0
pub all_short : (values : ℕ) → values ≤ 64 → Same (Below 7 values) (SmallBelow values)
all_short values few =
    same_after (set_spelled 7 (λ k. k < values) (λ k h. omega arith))
    (same_after (same_spelled (λ k h. h) (λ k h. h) (λ k h. ap ones (sym (small_is k (omega arith))))) (same_flip (small_spelled values (omega (arith, few)))))

-- ---- laws

module _ (values : ℕ) where
  -- a number of the short form has 6 bits
  is_short : (k : ℕ) (cs : List Chunk) → Branch {V = ℕ ⊎ ℕ} 0 inl (Below 6 values) (inl k) cs ⊎ Branch {V = ℕ ⊎ ℕ} 1 inr (LargeBelow values) (inl k) cs → k < 64
  is_short k cs (inl b) =
      let same : k ≡ b.value = let e = b.seen in cc in
      omega (arith, same, (bits_only 6 b.value b.spelt.units b.spelt.spelt.digits).0)
  is_short k cs (inr b) = absurd (let e = b.seen in cc)

  -- and one of the long form is none of them
  is_large : (k : ℕ) (cs : List Chunk) → Branch {V = ℕ ⊎ ℕ} 0 inl (Below 6 values) (inr k) cs ⊎ Branch {V = ℕ ⊎ ℕ} 1 inr (LargeBelow values) (inr k) cs → 64 ≤ k
  is_large k cs (inl b) = absurd (let e = b.seen in cc)
  is_large k cs (inr b) =
      let same : k ≡ b.value = let e = b.seen in cc in
      omega (arith, same, b.spelt.seen, b.spelt.spelt.follows.spelt.member.member.0)

  -- the number tells the form
  form_once : (v w : ℕ ⊎ ℕ) (x y : List Chunk) → Fork (Below 6 values) (LargeBelow values) v x → Fork (Below 6 values) (LargeBelow values) w y → of_either v ≡ of_either w → v ≡ w
  form_once (inl m) (inl n) x y p q e = ap inl e
  form_once (inl m) (inr n) x y p q e = absurd (omega (arith, e, is_short m x p.side, is_large n y q.side))
  form_once (inr m) (inl n) x y p q e = absurd (omega (arith, e, is_large m x p.side, is_short n y q.side))
  form_once (inr m) (inr n) x y p q e = ap inr e

  -- and the count of its octets
  count_once : (v w : ℕ × ℕ) (x y : List Chunk) → Counted 2 8 (Least (IsLarge values)) v x → Counted 2 8 (Least (IsLarge values)) w y → number_of v ≡ number_of w → v ≡ w
  count_once (j, m) (k, n) x y p q e =
      let same : j ≡ k = sym p.follows.spelt.member.count ∙ ap octet_count e ∙ q.follows.spelt.member.count in
      ap (λ (i : ℕ). (i, m)) same ∙ ap (λ (i : ℕ). (k, i)) e

  -- so two are spelt alike only where they are one
  pub small_lawful : Lawful (SmallBelow values)
  small_lawful = map_lawful_on form_once (fork_lawful (set_lawful 2 6 (λ k. k < values)) (map_lawful_on count_once (counted_lawful 2 8 (Least (IsLarge values)))))
