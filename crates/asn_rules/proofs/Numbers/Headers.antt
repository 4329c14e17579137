-- One general length: its three forms, the laws, and where a reader of its bits stops.
use Rattle.std.proofs.Common.{◌≡◌, ℕ, ◌+◌, ◌-◌, ◌*◌, ◌^◌, ◌<◌, ◌≤◌, ◌⊎◌, inl, inr, ⊎_elim, List, [], ◌∷◌, length, refl, sym, ap, ◌∙◌, subst, arith}
use Rattle.std.proofs.lemmas.Bool.{cases_lt}
use Rattle.asn_bits.specs.Numbers.{bits}
use Rattle.asn_bits.proofs.Weights.{bits_are, weighted_bound}
use Rattle.asn_rules.proofs.Remaining.Carries.{carries_both, carries_map, carries_short, carries_refused}
use Rattle.asn_rules.proofs.Live.Chunks.{FieldsPart}
use Rattle.asn_rules.proofs.Languages.Forks.{map_map, map_lawful_on, same_flip, same_carries, fork_lawful, fork_inhabited_zero, fork_inhabited_one, fork_zero, fork_one, fork_short, fork_refused}
use Rattle.asn_rules.proofs.Languages.Parts.{map_short, map_refused}
use Rattle.asn_bits.proofs.Unions.{set_meets}
use Rattle.asn_rules.proofs.Numbers.Sets.{set_lawful, set_inhabited}
use Rattle.asn_rules.specs.Chunks.{Chunk, ones}
use Rattle.asn_rules.specs.Forks.{Branch, Fork, Same}
use Rattle.asn_rules.specs.General.{Length, last, fragment, Few, Many, Blocks, length_of, Header}
use Rattle.asn_rules.specs.Languages.{Short, Refused, Lawful, Inhabited, Map, Plain, Carries}
use Rattle.asn_rules.specs.Live.{Fielding}
use Rattle.asn_bits.specs.Sets.{IsBits, InSet, Meets}

-- what a length that is spelt tells
abbrev pub Tells : (ℕ → Type 0) → Length → Type 0
Tells S (last n) = S n × (n < 16384)
Tells S (fragment m) = Blocks S m

-- the three forms, before they are told apart by what they say
fork_of : (ℕ → Type 0) → ℕ ⊎ (ℕ ⊎ ℕ) → List Chunk → Type 0
fork_of S = Fork (Plain (InSet 7 (Few S))) (Fork (Plain (InSet 14 (Many S))) (Plain (InSet 6 (Blocks S))))

-- what a value of the fork tells
abbrev FromBits : (ℕ → Type 0) → ℕ ⊎ (ℕ ⊎ ℕ) → Type 0
FromBits S (inl n) = Few S n
FromBits S (inr (inl n)) = Many S n
FromBits S (inr (inr m)) = Blocks S m

-- what the bits of a length tell
from_bits : (S : ℕ → Type 0) (a : ℕ ⊎ (ℕ ⊎ ℕ)) (x : List Chunk) → Fork (Plain (InSet 7 (Few S))) (Fork (Plain (InSet 14 (Many S))) (Plain (InSet 6 (Blocks S)))) a x → FromBits S a
from_bits S a x h = outer a x h.side
  where
    inner : (a : ℕ ⊎ ℕ) (x : List Chunk) → Branch 0 inl (Plain (InSet 14 (Many S))) a x ⊎ Branch 1 inr (Plain (InSet 6 (Blocks S))) a x → FromBits S (inr a)
    inner a x (inl b) = subst (λ (c : ℕ ⊎ ℕ). FromBits S (inr c)) (sym b.seen) b.spelt.spelt.member
    inner a x (inr b) = subst (λ (c : ℕ ⊎ ℕ). FromBits S (inr c)) (sym b.seen) b.spelt.spelt.member

    outer : (a : ℕ ⊎ (ℕ ⊎ ℕ)) (x : List Chunk) → Branch 0 inl (Plain (InSet 7 (Few S))) a x ⊎ Branch 1 inr (Fork (Plain (InSet 14 (Many S))) (Plain (InSet 6 (Blocks S)))) a x → FromBits S a
    outer a x (inl b) = subst (λ (c : ℕ ⊎ (ℕ ⊎ ℕ)). FromBits S c) (sym b.seen) b.spelt.spelt.member
    outer a x (inr b) = subst (λ (c : ℕ ⊎ (ℕ ⊎ ℕ)). FromBits S c) (sym b.seen) (inner b.value b.rest b.spelt.side)

-- as a length
tells_of : (S : ℕ → Type 0) (a : ℕ ⊎ (ℕ ⊎ ℕ)) → FromBits S a → Tells S (length_of a)
tells_of S (inl n) h = (h.member, omega (arith, h.below))
tells_of S (inr (inl n)) h = (h.member, h.below)
tells_of S (inr (inr m)) h = h

-- what a length that is spelt tells
pub header_tells : {S : ℕ → Type 0} {l : Length} {cs : List Chunk} → Header S l cs → Tells S l
header_tells {S} {l} {cs} h = subst (λ (x : Length). Tells S x) (sym h.seen) (tells_of S h.source (from_bits S h.source cs h.spelt))

-- a length is written in one form
lengths_once : (S : ℕ → Type 0) (a b : ℕ ⊎ (ℕ ⊎ ℕ)) → FromBits S a → FromBits S b → length_of a ≡ length_of b → a ≡ b
lengths_once S (inl m) (inl n) f g e = (let h : m ≡ n = cc in ap inl h)
lengths_once S (inl m) (inr (inl n)) f g e = (let h : m ≡ n = cc in absurd (omega (arith, f.below, g.least)))
lengths_once S (inl m) (inr (inr n)) f g e = cc
lengths_once S (inr (inl m)) (inl n) f g e = (let h : m ≡ n = cc in absurd (omega (arith, g.below, f.least)))
lengths_once S (inr (inl m)) (inr (inl n)) f g e = (let h : m ≡ n = cc in cc)
lengths_once S (inr (inl m)) (inr (inr n)) f g e = cc
lengths_once S (inr (inr m)) (inl n) f g e = cc
lengths_once S (inr (inr m)) (inr (inl n)) f g e = cc
lengths_once S (inr (inr m)) (inr (inr n)) f g e = (let h : m ≡ n = cc in cc)

-- two lengths are one or part
pub header_lawful : (S : ℕ → Type 0) → Lawful (Header S)
header_lawful S = map_lawful_on (λ a b x y p q e. lengths_once S a b (from_bits S a x p) (from_bits S b y q) e) (fork_lawful (set_lawful 2 7 (Few S)) (fork_lawful (set_lawful 2 14 (Many S)) (set_lawful 2 6 (Blocks S))))

-- the blocks at the front of a count
pub block_cases : (n : ℕ) → 16384 ≤ n → (m : ℕ) × (r : ℕ) × (1 ≤ m) × (m ≤ 4) × (16384 * m + r ≡ n) × (m < 4 → r < 16384)
block_cases n h = ⊎_elim (λ a. (1, n - 16384, omega arith, omega arith, omega arith, λ _. omega arith)) (λ a. ⊎_elim (λ b. (2, n - 32768, omega arith, omega arith, omega arith, λ _. omega arith)) (λ b. ⊎_elim (λ c. (3, n - 49152, omega arith, omega arith, omega arith, λ _. omega arith)) (λ c. (4, n - 65536, omega arith, omega arith, omega arith, λ d. absurd (omega arith))) (cases_lt n 65536)) (cases_lt n 49152)) (cases_lt n 32768)

-- The three forms of a length.
pub header_few_is : (S : ℕ → Type 0) (n : ℕ) (us : List ℕ) → Few S n → IsBits 7 n us → Header S (last n) (ones (0 ∷ us))
header_few_is S n us f b = record { source = inl n; spelt = record { side = inl (record { value = n; rest = ones us; spelt = record { units = us; spelt = record { digits = b; member = f }; same = refl }; seen = refl; same = refl }) }; seen = refl }

-- 10 and 14 bits
pub header_many_is : (S : ℕ → Type 0) (n : ℕ) (us : List ℕ) → Many S n → IsBits 14 n us → Header S (last n) (ones (1 ∷ 0 ∷ us))
header_many_is S n us f b = record { source = inr (inl n); spelt = record { side = inr (record { value = inl n; rest = ones (0 ∷ us); spelt = record { side = inl (record { value = n; rest = ones us; spelt = record { units = us; spelt = record { digits = b; member = f }; same = refl }; seen = refl; same = refl }) }; seen = refl; same = refl }) }; seen = refl }

-- 11 and 6 bits
pub header_blocks_is : (S : ℕ → Type 0) (m : ℕ) (us : List ℕ) → Blocks S m → IsBits 6 m us → Header S (fragment m) (ones (1 ∷ 1 ∷ us))
header_blocks_is S m us f b = record { source = inr (inr m); spelt = record { side = inr (record { value = inr m; rest = ones (1 ∷ us); spelt = record { side = inr (record { value = m; rest = ones us; spelt = record { units = us; spelt = record { digits = b; member = f }; same = refl }; seen = refl; same = refl }) }; seen = refl; same = refl }) }; seen = refl }

-- a count that is less than a block has a length, and it is the last
pub last_is : (S : ℕ → Type 0) (n : ℕ) → S n → n < 16384 → (cs : List Chunk) × Header S (last n) cs
last_is S n h w = ⊎_elim (λ a. (ones (0 ∷ bits 7 n), header_few_is S n (bits 7 n) (record { member = h; below = a }) (bits_are 7 n (omega arith)))) (λ a. (ones (1 ∷ 0 ∷ bits 14 n), header_many_is S n (bits 14 n) (record { member = h; least = a; below = w }) (bits_are 14 n (omega arith)))) (cases_lt n 128)

-- After the first bits, what is left is a number.
pub header_few : (R : Fielding) (S : ℕ → Type 0) → Carries R (Map last (Plain (InSet 7 (Few S)))) (Header S) (0 ∷ [])
header_few R S = carries_both (carries_map (fork_zero R)) (same_carries R (same_flip (map_map (λ n. refl))))

-- after 10 a count in 14 bits
pub header_many : (R : Fielding) (S : ℕ → Type 0) → Carries R (Map last (Plain (InSet 14 (Many S)))) (Header S) (1 ∷ 0 ∷ [])
header_many R S = carries_both (carries_both (carries_map (fork_one R)) (carries_map (carries_map (fork_zero R)))) (same_carries R (many S))
  where
    many : (S : ℕ → Type 0) → Same (Map last (Plain (InSet 14 (Many S)))) (Map length_of (Map inr (Map inl (Plain (InSet 14 (Many S))))))
    many S = record {
      to = λ v cs m. record { source = inr (inl m.source); spelt = record { source = inl m.source; spelt = record { source = m.source; spelt = m.spelt; seen = refl }; seen = refl }; seen = m.seen };
      from = λ v cs m. record { source = m.spelt.spelt.source; spelt = m.spelt.spelt.spelt; seen = m.seen ∙ ap length_of m.spelt.seen ∙ ap (λ (x : ℕ ⊎ ℕ). length_of (inr x)) m.spelt.spelt.seen };
    }

-- after 11 a number of blocks in 6 bits
pub header_blocks : (R : Fielding) (S : ℕ → Type 0) → Carries R (Map fragment (Plain (InSet 6 (Blocks S)))) (Header S) (1 ∷ 1 ∷ [])
header_blocks R S = carries_both (carries_both (carries_map (fork_one R)) (carries_map (carries_map (fork_one R)))) (same_carries R (blocks S))
  where
    blocks : (S : ℕ → Type 0) → Same (Map fragment (Plain (InSet 6 (Blocks S)))) (Map length_of (Map inr (Map inr (Plain (InSet 6 (Blocks S))))))
    blocks S = record {
      to = λ v cs m. record { source = inr (inr m.source); spelt = record { source = inr m.source; spelt = record { source = m.source; spelt = m.spelt; seen = refl }; seen = refl }; seen = m.seen };
      from = λ v cs m. record { source = m.spelt.spelt.source; spelt = m.spelt.spelt.spelt; seen = m.seen ∙ ap length_of m.spelt.seen ∙ ap (λ (x : ℕ ⊎ ℕ). length_of (inr x)) m.spelt.spelt.seen };
    }

-- some length is spelt where some count is of the set
pub header_inhabited : {S : ℕ → Type 0} (n : ℕ) → S n → Inhabited (Header S)
header_inhabited {S} n h = ⊎_elim
    (λ a. (let p = last_is S n h a in record { value = last n; chunks = p.0; spelt = p.1 }))
    (λ a. (let p = block_cases n a in
    let b = header_blocks_is S p.0 (bits 6 p.0) (record { some = p.2; most = p.3; rest = p.1; left = record { member = subst (λ (x : ℕ). S x) (sym p.4) h; largest = p.5 } }) (bits_are 6 p.0 (omega (arith, p.3))) in
    record { value = fragment p.0; chunks = ones (1 ∷ 1 ∷ bits 6 p.0); spelt = b }))
    (cases_lt n 16384)

-- The bits of a length one by one: none has been read, a first one that cannot stand there, a second one that cannot.
pub header_starts : {R : Fielding} {S : ℕ → Type 0} (n : ℕ) → S n → Short R (Header S) []
header_starts {R} {S} n h = starts (header_inhabited n h)
  where
    starts : Inhabited (Header S) → Short R (Header S) []
    starts i = map_short (fork_short (record { value = i.spelt.source; chunks = i.chunks; spelt = i.spelt.spelt }))

-- a number that is spelt is of the set
set_some : {k : ℕ} {T : ℕ → Type 0} → Inhabited (Plain (InSet k T)) → Meets T 0 k
set_some {k} {T} i =
    let c = i.spelt.spelt in
    let b = weighted_bound 2 i.spelt.units c.digits.digits in
    let q = ap (λ (x : ℕ). 2 ^ x) c.digits.count in
    set_meets 2 k i.value c.member (omega (arith, b, q, c.digits.sum))

-- what may follow a first 1
abbrev pub Longer : (ℕ → Type 0) → Type 0
Longer S = Meets (Many S) 0 14 ⊎ Meets (Blocks S) 0 6

-- what is spelt after a 1 tells which
longer_fork : {S : ℕ → Type 0} → Inhabited (Fork (Plain (InSet 14 (Many S))) (Plain (InSet 6 (Blocks S)))) → Longer S
longer_fork {S} i = go i.value i.chunks i.spelt.side
  where
    go : (v : ℕ ⊎ ℕ) (cs : List Chunk) → Branch 0 inl (Plain (InSet 14 (Many S))) v cs ⊎ Branch 1 inr (Plain (InSet 6 (Blocks S))) v cs → Longer S
    go v cs (inl b) = inl (set_some (record { value = b.value; chunks = b.rest; spelt = b.spelt }))
    go v cs (inr b) = inr (set_some (record { value = b.value; chunks = b.rest; spelt = b.spelt }))

-- and the other way round
fork_longer : (S : ℕ → Type 0) → Longer S → Inhabited (Fork (Plain (InSet 14 (Many S))) (Plain (InSet 6 (Blocks S))))
fork_longer S (inl m) = fork_inhabited_zero (set_inhabited m)
fork_longer S (inr m) = fork_inhabited_one (set_inhabited m)

-- the first unit is no bit that may stand there
pub header_refused_first : {R : Fielding} {S : ℕ → Type 0} → FieldsPart R → (n : ℕ) → S n → (u : ℕ) (us : List ℕ) → (u ≡ 0 → Meets (Few S) 0 7 → ⊥) → (u ≡ 1 → Longer S → ⊥) → Refused R (Header S) (u ∷ us) (length us)
header_refused_first {R} {S} ok n h u us f g = refused (header_inhabited n h)
  where
    refused : Inhabited (Header S) → Refused R (Header S) (u ∷ us) (length us)
    refused i = map_refused (fork_refused ok (record { value = i.spelt.source; chunks = i.chunks; spelt = i.spelt.spelt }) u us (λ e j. f e (set_some j)) (λ e j. g e (longer_fork j)))

-- after a first 1, what is left is the rest of the fork
header_one : (R : Fielding) (S : ℕ → Type 0) → Carries R (Map length_of (Map inr (Fork (Plain (InSet 14 (Many S))) (Plain (InSet 6 (Blocks S)))))) (Header S) (1 ∷ [])
header_one R S = carries_map (fork_one R)

-- a 1 has been read
pub header_short_second : {R : Fielding} {S : ℕ → Type 0} → (l : Longer S) → Short R (Header S) (1 ∷ [])
header_short_second {R} {S} l = carries_short {s = []} (header_one R S) (map_short (map_short (fork_short (fork_longer S l))))

-- the second unit is no bit that may stand there
pub header_refused_second : {R : Fielding} {S : ℕ → Type 0} → FieldsPart R → (l : Longer S) → (u : ℕ) (us : List ℕ) → (u ≡ 0 → Meets (Many S) 0 14 → ⊥) → (u ≡ 1 → Meets (Blocks S) 0 6 → ⊥) → Refused R (Header S) (1 ∷ u ∷ us) (length us)
header_refused_second {R} {S} ok l u us f g = carries_refused {s = u ∷ us} (header_one R S) (map_refused (map_refused (fork_refused ok (fork_longer S l) u us (λ e j. f e (set_some j)) (λ e j. g e (set_some j)))))
