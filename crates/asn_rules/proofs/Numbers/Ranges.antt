-- Sets of counts, asked by ranges: what a reader of general lengths tests.
use Rattle.std.proofs.Common.{◌≡◌, ℕ, zero, suc, ◌+◌, ◌-◌, ◌*◌, ◌^◌, ◌<◌, ◌≤◌, min, max, Bool, true, false, nat_lt, Option, Some, None, ◌⊎◌, inl, inr, ⊎_elim, List, refl, subst, arith}
use Rattle.std.proofs.lemmas.Bool.{cases_lt, ltb-true, ltb-false}
use Rattle.asn_bits.proofs.Ranges.{reaches_some, some_reaches}
use Rattle.asn_rules.proofs.Numbers.Headers.{block_cases}
use Rattle.asn_rules.specs.Chunks.{Chunk}
use Rattle.asn_rules.specs.Forks.{Branch, Fork, Same}
use Rattle.asn_rules.specs.General.{Length, last, fragment, Few, Many, Left, Blocks, Header, Body, Within, General}
use Rattle.asn_rules.specs.Languages.{Plain}
use Rattle.asn_bits.specs.Ranges.{AtMost, SomeIn, Spanned, Reaches, At}
use Rattle.asn_bits.specs.Sets.{InSet, Meets}

-- A number that begins so, as a range.
pub meets_range : {S : ℕ → Type 0} {p r : ℕ} → Meets S p r → SomeIn S (p * 2 ^ r) (Some ((p + 1) * 2 ^ r - 1))
meets_range m = record { number = m.number; member = m.member; least = m.least; most = omega (arith, m.below) }

-- and back
pub range_meets : {S : ℕ → Type 0} (p r : ℕ) → 0 < 2 ^ r → SomeIn S (p * 2 ^ r) (Some ((p + 1) * 2 ^ r - 1)) → Meets S p r
range_meets p r w s =
    let m = s.most in
    record { number = s.number; member = s.member; least = s.least; below = omega arith }

-- The counts of 7 bits, of 14 bits, and of blocks, as ranges of the set itself.
pub few_range : {S : ℕ → Type 0} {o : ℕ} {c : Bool} {p r : ℕ} → Meets (Few (At S o c)) p r → SomeIn S (o + p * 2 ^ r) (Some (o + ((p + 1) * 2 ^ r - 1)))
few_range {o = o} m = record { number = o + m.number; member = m.member.member.member; least = omega (arith, m.least); most = omega (arith, m.below) }

-- and back
pub range_few : {S : ℕ → Type 0} (o : ℕ) (c : Bool) (p r : ℕ) → 0 < 2 ^ r → (p + 1) * 2 ^ r ≤ 128 → SomeIn S (o + p * 2 ^ r) (Some (o + ((p + 1) * 2 ^ r - 1))) → Meets (Few (At S o c)) p r
range_few {S} o c p r w l s =
    let m = s.most in
    let n = s.least in
    let e : s.number ≡ o + (s.number - o) = omega arith in
    record { number = s.number - o; member = record { member = record { member = subst (λ (x : ℕ). S x) e s.member; largest = λ _. omega arith }; below = omega arith }; least = omega arith; below = omega arith }

-- counts of 14 bits, as a range
pub many_range : {S : ℕ → Type 0} {o : ℕ} {c : Bool} {p r : ℕ} → Meets (Many (At S o c)) p r → SomeIn S (o + max 128 (p * 2 ^ r)) (Some (o + ((p + 1) * 2 ^ r - 1)))
many_range {o = o} m = record { number = o + m.number; member = m.member.member.member; least = omega (arith, m.least, m.member.least); most = omega (arith, m.below) }

-- and back
pub range_many : {S : ℕ → Type 0} (o : ℕ) (c : Bool) (p r : ℕ) → 0 < 2 ^ r → (p + 1) * 2 ^ r ≤ 16384 → SomeIn S (o + max 128 (p * 2 ^ r)) (Some (o + ((p + 1) * 2 ^ r - 1))) → Meets (Many (At S o c)) p r
range_many {S} o c p r w l s =
    let m = s.most in
    let n = s.least in
    let e : s.number ≡ o + (s.number - o) = omega arith in
    record { number = s.number - o; member = record { member = record { member = subst (λ (x : ℕ). S x) e s.member; largest = λ _. omega arith }; least = omega arith; below = omega arith }; least = omega arith; below = omega arith }

-- after fewer than 4 blocks come no blocks
pub closed_blocks : {S : ℕ → Type 0} {o p r : ℕ} → Meets (Blocks (At S o true)) p r → ⊥
closed_blocks m =
    let b = m.member in
    let h = b.left.member.largest refl in
    let s = b.some in
    omega arith

-- the last number of the blocks a to b
abbrev pub last_of_blocks : ℕ → ℕ → Option ℕ
last_of_blocks o b = elim (nat_lt b 4) [ true ↦ Some (o + 16384 * b + 16383) | false ↦ None ]

-- what blocks reach to
end_of_blocks : (o b n : ℕ) → (b < 4 → n ≤ o + 16384 * b + 16383) → AtMost n (last_of_blocks o b)
end_of_blocks o b n h = go (nat_lt b 4) refl
  where
    go : (t : Bool) → nat_lt b 4 ≡ t → AtMost n (elim t [ true ↦ Some (o + 16384 * b + 16383) | false ↦ None ])
    go true e = h (ltb-true b 4 e)
    go false e = tt

-- and back
from_end : (o b n : ℕ) → AtMost n (last_of_blocks o b) → b < 4 → n ≤ o + 16384 * b + 16383
from_end o b n h l = go (nat_lt b 4) refl h
  where
    go : (t : Bool) → nat_lt b 4 ≡ t → AtMost n (elim t [ true ↦ Some (o + 16384 * b + 16383) | false ↦ None ]) → n ≤ o + 16384 * b + 16383
    go true e k = k
    go false e k = (let f = ltb-false b 4 e in absurd (omega arith))

-- numbers of blocks, as a range
pub blocks_range : {S : ℕ → Type 0} {o p r : ℕ} → Meets (Blocks (At S o false)) p r → (max 1 (p * 2 ^ r) ≤ min 4 ((p + 1) * 2 ^ r - 1)) × SomeIn S (o + 16384 * max 1 (p * 2 ^ r)) (last_of_blocks o (min 4 ((p + 1) * 2 ^ r - 1)))
blocks_range {S} {o} {p} {r} m =
    let k = m.member in
    let a = k.some in
    let b = k.most in
    let l = m.least in
    let u = m.below in
    let e : o + (16384 * m.number + k.rest) ≡ o + 16384 * m.number + k.rest = omega arith in (
      omega arith,
      record {
        number = o + 16384 * m.number + k.rest;
        member = subst (λ (x : ℕ). S x) e k.left.member.member;
        least = omega arith;
        most = end_of_blocks o (min 4 ((p + 1) * 2 ^ r - 1)) (o + 16384 * m.number + k.rest) (λ h. (let q : k.rest < 16384 = k.left.largest (omega arith) in omega arith));
      },
    )

-- and back
pub range_blocks : {S : ℕ → Type 0} (o p r : ℕ) → 0 < 2 ^ r → max 1 (p * 2 ^ r) ≤ min 4 ((p + 1) * 2 ^ r - 1) → SomeIn S (o + 16384 * max 1 (p * 2 ^ r)) (last_of_blocks o (min 4 ((p + 1) * 2 ^ r - 1))) → Meets (Blocks (At S o false)) p r
range_blocks {S} o p r w h s = go (max 1 (p * 2 ^ r)) (min 4 ((p + 1) * 2 ^ r - 1)) refl refl s.number s.member s.least s.most
  where
    go : (a b : ℕ) → a ≡ max 1 (p * 2 ^ r) → b ≡ min 4 ((p + 1) * 2 ^ r - 1) → (x : ℕ) → S x → o + 16384 * a ≤ x → AtMost x (last_of_blocks o b) → Meets (Blocks (At S o false)) p r
    go a b d e x m l u = found (block_cases (x - o) (omega arith))
      where
        found : (m : ℕ) × (r : ℕ) × (1 ≤ m) × (m ≤ 4) × (16384 * m + r ≡ x - o) × (m < 4 → r < 16384) → Meets (Blocks (At S o false)) p r
        found k =
            let y : x ≡ o + (16384 * k.0 + k.1) = omega (arith, k.4) in
            let low : a ≤ k.0 = ⊎_elim (λ f. (let q : k.1 < 16384 = k.5 (omega arith) in absurd (omega (arith, k.4)))) (λ f. f) (cases_lt k.0 a) in
            let high : k.0 ≤ b = ⊎_elim (λ f. (let q : x ≤ o + 16384 * b + 16383 = from_end o b x u f in omega (arith, k.4))) (λ f. omega (arith, k.3)) (cases_lt b 4) in
            record {
              number = k.0;
              member = record { some = k.2; most = k.3; rest = k.1; left = record { member = record { member = subst (λ (z : ℕ). S z) y m; largest = λ q. cc }; largest = k.5 } };
              least = omega arith;
              below = omega arith;
            }

-- What is left after blocks, in the same terms.
pub left_at : {S : ℕ → Type 0} {o m n : ℕ} → Left (At S o false) m n → At S (o + 16384 * m) (nat_lt m 4) n
left_at {S} {o} {m} {n} h =
    let e : o + (16384 * m + n) ≡ o + 16384 * m + n = omega arith in
    record { member = subst (λ (x : ℕ). S x) e h.member.member; largest = λ q. h.largest (ltb-true m 4 q) }

-- a number below another, as a truth value
less : (m n : ℕ) → m < n → nat_lt m n ≡ true
less m n h = go (nat_lt m n) refl
  where
    go : (b : Bool) → nat_lt m n ≡ b → b ≡ true
    go true e = refl
    go false e = (let f = ltb-false m n e in absurd (omega arith))

-- and back
pub at_left : {S : ℕ → Type 0} {o m n : ℕ} → At S (o + 16384 * m) (nat_lt m 4) n → Left (At S o false) m n
at_left {S} {o} {m} {n} h =
    let e : o + 16384 * m + n ≡ o + (16384 * m + n) = omega arith in
    record { member = record { member = subst (λ (x : ℕ). S x) e h.member; largest = λ q. cc }; largest = λ q. h.largest (less m 4 q) }

-- no item has been read
pub at_start : {S : ℕ → Type 0} {n : ℕ} → S n → At S 0 false n
at_start {S} {n} h =
    let e : n ≡ 0 + n = omega arith in
    record { member = subst (λ (x : ℕ). S x) e h; largest = λ q. cc }

-- and back
pub start_at : {S : ℕ → Type 0} {n : ℕ} → At S 0 false n → S n
start_at {S} {n} h =
    let e : 0 + n ≡ n = omega arith in
    subst (λ (x : ℕ). S x) e h.member

-- The same counts, the same general lengths.
left_to : {S T : ℕ → Type 0} → ((n : ℕ) → S n → T n) → (m n : ℕ) → Left S m n → Left T m n
left_to f m n h = record { member = f (16384 * m + n) h.member; largest = h.largest }

-- numbers of blocks
blocks_to : {S T : ℕ → Type 0} → ((n : ℕ) → S n → T n) → (m : ℕ) → Blocks S m → Blocks T m
blocks_to f m h = record { some = h.some; most = h.most; rest = h.rest; left = left_to f m h.rest h.left }

-- numbers in bits
set_to : {k : ℕ} {S T : ℕ → Type 0} → ((n : ℕ) → S n → T n) → (n : ℕ) (cs : List Chunk) → Plain (InSet k S) n cs → Plain (InSet k T) n cs
set_to f n cs h = record { units = h.units; spelt = record { digits = h.spelt.digits; member = f n h.spelt.member }; same = h.same }

-- after a bit
branch_to : {A V : Type 0} {u : ℕ} {g : A → V} {L M : A → List Chunk → Type 0} → ((a : A) (cs : List Chunk) → L a cs → M a cs) → (v : V) (cs : List Chunk) → Branch u g L v cs → Branch u g M v cs
branch_to f v cs h = record { value = h.value; rest = h.rest; spelt = f h.value h.rest h.spelt; seen = h.seen; same = h.same }

-- after either bit
fork_to : {A B : Type 0} {X Z : A → List Chunk → Type 0} {Y W : B → List Chunk → Type 0} → ((a : A) (cs : List Chunk) → X a cs → Z a cs) → ((b : B) (cs : List Chunk) → Y b cs → W b cs) → (v : A ⊎ B) (cs : List Chunk) → Fork X Y v cs → Fork Z W v cs
fork_to f g v cs h = record { side = ⊎_elim (λ b. inl (branch_to f v cs b)) (λ b. inr (branch_to g v cs b)) h.side }

-- lengths
header_to : {S T : ℕ → Type 0} → ((n : ℕ) → S n → T n) → (l : Length) (cs : List Chunk) → Header S l cs → Header T l cs
header_to {S} {T} f l cs h = record {
  source = h.source;
  spelt = fork_to (set_to (λ n x. record { member = f n x.member; below = x.below })) (fork_to (set_to (λ n x. record { member = f n x.member; least = x.least; below = x.below })) (set_to (blocks_to f))) h.source cs h.spelt;
  seen = h.seen;
}

-- items, with a bound on the lengths
within_to : {A : Type 0} (L : A → List Chunk → Type 0) (f : ℕ) (S T : ℕ → Type 0) → ((n : ℕ) → S n → T n) → (vs : List A) (cs : List Chunk) → Within L f S vs cs → Within L f T vs cs
within_to L zero S T g vs cs h = absurd h
within_to {A} L (suc f) S T g vs cs h = record {
  source = h.source;
  spelt = record { first = h.spelt.first; second = h.spelt.second; spelt = header_to g h.source.0 h.spelt.first h.spelt.spelt; follows = body h.source.0 h.source.1 h.spelt.second h.spelt.follows (λ m ws ds x. within_to L f (Left S m) (Left T m) (left_to g m) ws ds x); whole = h.spelt.whole };
  seen = h.seen;
}
  where
    body : (l : Length) (ws : List A) (ds : List Chunk) → Body L (Within L f) S l ws ds → ((m : ℕ) (ws : List A) (ds : List Chunk) → Within L f (Left S m) ws ds → Within L f (Left T m) ws ds) → Body L (Within L f) T l ws ds
    body (last n) ws ds b again = b
    body (fragment m) ws ds b again = record { source = b.source; spelt = record { first = b.spelt.first; second = b.spelt.second; spelt = b.spelt.spelt; follows = again m b.source.1 b.spelt.second b.spelt.follows; whole = b.spelt.whole }; seen = b.seen }

-- sets of the same counts have the same general lengths
pub general_sets : {A : Type 0} (L : A → List Chunk → Type 0) {S T : ℕ → Type 0} → ((n : ℕ) → S n → T n) → ((n : ℕ) → T n → S n) → Same (General L S) (General L T)
general_sets L {S} {T} f g = record {
  to = λ v cs h. record { lengths = h.lengths; spelt = within_to L h.lengths S T f v cs h.spelt };
  from = λ v cs h. record { lengths = h.lengths; spelt = within_to L h.lengths T S g v cs h.spelt };
}

-- after blocks, the general length of what is left
pub general_left : {A : Type 0} (L : A → List Chunk → Type 0) (S : ℕ → Type 0) (o m : ℕ) → Same (General L (Left (At S o false) m)) (General L (At S (o + 16384 * m) (nat_lt m 4)))
general_left L S o m = general_sets L (λ n h. left_at h) (λ n h. at_left h)

-- ---- what a reader of a length tests, where the counts are of intervals

-- a count in 7 bits begins so where the test says so
pub reaches_few : (is : List (ℕ × Option ℕ)) (o : ℕ) (c : Bool) (p r : ℕ) → 0 < 2 ^ r → (p + 1) * 2 ^ r ≤ 128 → Reaches is (o + p * 2 ^ r) (Some (o + ((p + 1) * 2 ^ r - 1))) → Meets (Few (At (Spanned is) o c)) p r
reaches_few is o c p r w l h = range_few o c p r w l (reaches_some is (o + p * 2 ^ r) (Some (o + ((p + 1) * 2 ^ r - 1))) h)

-- and back
pub few_reaches : (is : List (ℕ × Option ℕ)) {o : ℕ} {c : Bool} {p r : ℕ} → Meets (Few (At (Spanned is) o c)) p r → Reaches is (o + p * 2 ^ r) (Some (o + ((p + 1) * 2 ^ r - 1)))
few_reaches is {o} {c} {p} {r} m = some_reaches is (o + p * 2 ^ r) (Some (o + ((p + 1) * 2 ^ r - 1))) (few_range m)

-- a count in 14 bits begins so where the test says so
pub reaches_many : (is : List (ℕ × Option ℕ)) (o : ℕ) (c : Bool) (p r : ℕ) → 0 < 2 ^ r → (p + 1) * 2 ^ r ≤ 16384 → Reaches is (o + max 128 (p * 2 ^ r)) (Some (o + ((p + 1) * 2 ^ r - 1))) → Meets (Many (At (Spanned is) o c)) p r
reaches_many is o c p r w l h = range_many o c p r w l (reaches_some is (o + max 128 (p * 2 ^ r)) (Some (o + ((p + 1) * 2 ^ r - 1))) h)

-- and back
pub many_reaches : (is : List (ℕ × Option ℕ)) {o : ℕ} {c : Bool} {p r : ℕ} → Meets (Many (At (Spanned is) o c)) p r → Reaches is (o + max 128 (p * 2 ^ r)) (Some (o + ((p + 1) * 2 ^ r - 1)))
many_reaches is {o} {c} {p} {r} m = some_reaches is (o + max 128 (p * 2 ^ r)) (Some (o + ((p + 1) * 2 ^ r - 1))) (many_range m)

-- of fragments only where the one before had 4 blocks, or there is none before
pub reaches_blocks : (is : List (ℕ × Option ℕ)) (o p r : ℕ) → 0 < 2 ^ r → max 1 (p * 2 ^ r) ≤ min 4 ((p + 1) * 2 ^ r - 1) → Reaches is (o + 16384 * max 1 (p * 2 ^ r)) (last_of_blocks o (min 4 ((p + 1) * 2 ^ r - 1))) → Meets (Blocks (At (Spanned is) o false)) p r
reaches_blocks is o p r w l h = range_blocks o p r w l (reaches_some is (o + 16384 * max 1 (p * 2 ^ r)) (last_of_blocks o (min 4 ((p + 1) * 2 ^ r - 1))) h)

-- and back
pub blocks_reaches : (is : List (ℕ × Option ℕ)) {o p r : ℕ} → Meets (Blocks (At (Spanned is) o false)) p r → (max 1 (p * 2 ^ r) ≤ min 4 ((p + 1) * 2 ^ r - 1)) × Reaches is (o + 16384 * max 1 (p * 2 ^ r)) (last_of_blocks o (min 4 ((p + 1) * 2 ^ r - 1)))
blocks_reaches is {o} {p} {r} m =
    let w = blocks_range m in
    (w.0, some_reaches is (o + 16384 * max 1 (p * 2 ^ r)) (last_of_blocks o (min 4 ((p + 1) * 2 ^ r - 1))) w.1)

-- the whole count is one of them
pub starts_spanned : {A : Type 0} (L : A → List Chunk → Type 0) (is : List (ℕ × Option ℕ)) → Same (General L (At (Spanned is) 0 false)) (General L (Spanned is))
starts_spanned L is = general_sets L (λ n h. start_at h) (λ n h. at_start h)
