-- Sets of counts as unions of intervals: the test of a range finds a number where there is one, and so does that
-- of the first length of the items left.
use Rattle.std.proofs.Common.{◌≡◌, ◌↔◌, ℕ, ◌+◌, ◌-◌, ◌<◌, ◌≤◌, Bool, true, Option, Some, None, inl, inr, ⊎_elim, List, [], ◌∷◌, subst, arith}
use Rattle.std.proofs.lemmas.Bool.{cases_lt}
use Rattle.asn_bits.specs.Ranges.{AtMost, SomeIn, Spanned, Meet, Reaches, At}
use Rattle.asn_bits.specs.LengthBits.{StartsLength, StartsSome}

-- The intervals decide each range.
span_in : (low : ℕ) (high : Option ℕ) (a : ℕ) (b : Option ℕ) → Meet low high a b → (n : ℕ) × (low ≤ n) × AtMost n high × (a ≤ n) × AtMost n b
span_in low high a b h = ⊎_elim (λ e. (a, omega arith, h.2, omega arith, h.3)) (λ e. (low, omega arith, h.0, e, h.1)) (cases_lt low a)

-- what is at or below the end, and less
at_most_of : (m n : ℕ) (b : Option ℕ) → m ≤ n → AtMost n b → AtMost m b
at_most_of m n None l h = tt
at_most_of m n (Some b) l h = omega arith

-- the test finds a number
pub reaches_some : (is : List (ℕ × Option ℕ)) (a : ℕ) (b : Option ℕ) → Reaches is a b → SomeIn (Spanned is) a b
reaches_some [] a b h = absurd h
reaches_some (i ∷ is) a b (inl h) =
    let p = span_in i.0 i.1 a b h in
    record { number = p.0; member = inl (p.1, p.2); least = p.3; most = p.4 }
reaches_some (i ∷ is) a b (inr h) =
    let s = reaches_some is a b h in
    record { number = s.number; member = inr s.member; least = s.least; most = s.most }

-- a number in common is found by the test
spanned_reaches : (is : List (ℕ × Option ℕ)) (a : ℕ) (b : Option ℕ) (n : ℕ) → Spanned is n → a ≤ n → AtMost n b → Reaches is a b
spanned_reaches [] a b n h l m = absurd h
spanned_reaches (i ∷ is) a b n (inl h) l m = inl (at_most_of i.0 n i.1 h.0 h.1, at_most_of i.0 n b h.0 m, at_most_of a n i.1 l h.1, at_most_of a n b l m)
spanned_reaches (i ∷ is) a b n (inr h) l m = inr (spanned_reaches is a b n h l m)

-- the test misses none
pub some_reaches : (is : List (ℕ × Option ℕ)) (a : ℕ) (b : Option ℕ) → SomeIn (Spanned is) a b → Reaches is a b
some_reaches is a b s = spanned_reaches is a b s.number s.member s.least s.most

-- a range of counts after those read so far, and the counts left that begin so
pub starts_reached : (is : List (ℕ × Option ℕ)) (so_far low : ℕ) (high end : Option ℕ) (closed : Bool) (bs : List ℕ)
    → ((n : ℕ) → AtMost n high ↔ AtMost (so_far + n) end)
    → ((n : ℕ) → ((low ≤ n) × AtMost n high) ↔ (StartsLength n bs × (closed ≡ true → n < 16384)))
    → Reaches is (so_far + low) end ↔ StartsSome (At (Spanned is) so_far closed) bs
starts_reached is so_far low high end closed bs f g = (
  λ r.
      let s = reaches_some is (so_far + low) end r in
      let l = s.least in
      let e : s.number ≡ so_far + (s.number - so_far) = omega arith in
      let w = (g (s.number - so_far)).0 (omega arith, (f (s.number - so_far)).1 (subst (λ (x : ℕ). AtMost x end) e s.most)) in
      record { count = s.number - so_far; member = record { member = subst (λ (x : ℕ). Spanned is x) e s.member; largest = w.1 }; starts = w.0 },
  λ s.
      let w = (g s.count).1 (s.starts, s.member.largest) in
      some_reaches is (so_far + low) end (record { number = so_far + s.count; member = s.member.member; least = omega (arith, w.0); most = (f s.count).0 w.1 }),
)

-- an end, after those read so far
pub end_after : (so_far high n : ℕ) → AtMost n (Some high) ↔ AtMost (so_far + n) (Some (so_far + high))
end_after so_far high n = (λ a. omega (arith, a), λ a. omega (arith, a))

-- a range whose end is known
pub range_end : (low : ℕ) (high end : Option ℕ) (S : ℕ → Type 0) → high ≡ end → ((n : ℕ) → ((low ≤ n) × AtMost n high) ↔ S n) → (n : ℕ) → ((low ≤ n) × AtMost n end) ↔ S n
range_end low high end S e f = subst (λ (h : Option ℕ). (n : ℕ) → ((low ≤ n) × AtMost n h) ↔ S n) e f
