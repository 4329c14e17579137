-- Items under their general length (X.691, "general length determinant"), one length after the other.
use Rattle.std.specs.Prelude.{◌+◌, ◌*◌, ◌<◌, ◌≤◌, ◌⊎◌, ℕ, zero, suc, List, ◌++◌}
use mathlib.Core.Logic.{inl, inr}
use Rattle.asn_rules.specs.Chunks.{Chunk}
use Rattle.asn_rules.specs.Languages.{Then, Map, Row, Plain}
use Rattle.asn_bits.specs.Sets.{InSet}
use Rattle.asn_rules.specs.Forks.{Fork}

-- what one length says: the items that follow are the last, or a fragment of this many blocks of 16384 items
-- follows, and then a length again
pub data Length : Type 0 where
  last fragment : ℕ → Length

-- the counts that are written in 7 bits
pub record Few (S : ℕ → Type 0) (n : ℕ) : Type 0 where
  pub member : S n
  pub below : n < 128

-- the counts that are written in 14 bits
pub record Many (S : ℕ → Type 0) (n : ℕ) : Type 0 where
  pub member : S n
  pub least : 128 ≤ n
  pub below : n < 16384

-- what may be left after a fragment of m blocks: less than a block if m is not 4, since m is the largest
pub record Left (S : ℕ → Type 0) (m n : ℕ) : Type 0 where
  pub member : S (16384 * m + n)
  pub largest : m < 4 → n < 16384

-- the numbers of blocks that some count begins with
pub record Blocks (S : ℕ → Type 0) (m : ℕ) : Type 0 where
  pub some : 1 ≤ m
  pub most : m ≤ 4
  pub rest : ℕ
  pub left : Left S m rest

abbrev pub length_of : ℕ ⊎ (ℕ ⊎ ℕ) → Length
length_of (inl n) = last n
length_of (inr (inl n)) = last n
length_of (inr (inr m)) = fragment m

-- one length, where the counts are of the set: 0 and 7 bits, 10 and 14 bits, or 11 and 6 bits
abbrev pub Header : (ℕ → Type 0) → Length → List Chunk → Type 0
Header S = Map length_of
    (Fork (Plain (InSet 7 (Few S))) (Fork (Plain (InSet 14 (Many S))) (Plain (InSet 6 (Blocks S)))))

abbrev pub together : {A : Type 0} → List A × List A → List A
together p = p.0 ++ p.1

abbrev pub after_first : {A B : Type 0} → A × B → B
after_first p = p.1

-- what follows a length, where G is what follows a fragment
abbrev pub Body : {A : Type 0} → (A → List Chunk → Type 0) → ((ℕ → Type 0) → List A → List Chunk → Type 0)
    → (ℕ → Type 0) → Length → List A → List Chunk → Type 0
Body L G S (last n) = Row L n
Body L G S (fragment m) = Map together (Then (Row L (16384 * m)) (λ _. G (Left S m)))

-- a length and what follows it
abbrev pub Once : {A : Type 0} → (A → List Chunk → Type 0) → ((ℕ → Type 0) → List A → List Chunk → Type 0)
    → (ℕ → Type 0) → List A → List Chunk → Type 0
Once L G S = Map after_first (Then (Header S) (Body L G S))

-- the same with fewer than this many lengths
abbrev pub Within : {A : Type 0} → (A → List Chunk → Type 0) → ℕ → (ℕ → Type 0) → List A → List Chunk → Type 0
Within L zero S = λ vs cs. ⊥
Within L (suc f) S = Once L (Within L f) S

-- items under their general length, their count being of the set
pub record General {A : Type 0} (L : A → List Chunk → Type 0) (S : ℕ → Type 0) (vs : List A) (cs : List Chunk)
    : Type 0 where
  pub lengths : ℕ
  pub spelt : Within L lengths S vs cs
