-- Languages, which values have which spellings, and what a reader's answer to units says of one.
use Rattle.std.specs.Prelude.{◌≡◌, ◌≢◌, ◌⊎◌, ℕ, zero, suc, List, [], ◌∷◌, ◌++◌, length, ⊤}
use Rattle.asn_rules.specs.Chunks.{Kind, Chunk, one, sealed, ones, field_units, flat}
use Rattle.asn_rules.specs.Parted.{Parted}
use Rattle.asn_rules.specs.Live.{Fielding, IsContent}

-- ---- fronts of a spelling

-- each sealed field has a content that such a field may have
abbrev pub AllContents : Fielding → List Chunk → Type 0
AllContents R [] = ⊤
AllContents R (one u ∷ cs) = AllContents R cs
AllContents R (sealed k c ∷ cs) = IsContent R k c × AllContents R cs

-- the units are less than a whole sealed field, of any content that it may have
pub record InField (R : Fielding) (k : Kind) (us : List ℕ) : Type 0 where
  pub content : List ℕ
  pub contents : IsContent R k content
  pub next : ℕ
  pub more : List ℕ
  pub split : us ++ next ∷ more ≡ field_units R.spelled k content

-- a sealed field has all its units, and of the units after it P holds
abbrev pub Passed : Fielding → Kind → List ℕ → List ℕ → (List ℕ → Type 0) → Type 0
Passed R k c us P = (rest : List ℕ) × IsContent R k c × (us ≡ field_units R.spelled k c ++ rest) × P rest

-- the units begin the spelling, up to the inside of a sealed field, which may be any
abbrev pub IsFront : Fielding → List Chunk → List ℕ → Type 0
IsFront R cs [] = ⊤
IsFront R [] (u ∷ us) = ⊥
IsFront R (one x ∷ cs) (u ∷ us) = (x ≡ u) × IsFront R cs us
IsFront R (sealed k c ∷ cs) (u ∷ us) = InField R k (u ∷ us) ⊎ Passed R k c (u ∷ us) (IsFront R cs)

-- ---- answers

-- which values have which spellings
abbrev pub Language : Type 0 → Type 1
Language V = V → List Chunk → Type 0

-- some front of the units is a spelling of the value, and the rest follows it
pub record Spells {V : Type 0} (R : Fielding) (L : V → List Chunk → Type 0) (v : V) (us rest : List ℕ) : Type 0 where
  pub chunks : List Chunk
  pub spelt : L v chunks
  pub contents : AllContents R chunks
  pub split : us ≡ flat R.spelled chunks ++ rest

-- no front of the units is a spelling
abbrev pub NoSpelling : {V : Type 0} → Fielding → (V → List Chunk → Type 0) → List ℕ → Type 0
NoSpelling {V} R L us = (v : V) (rest : List ℕ) → Spells R L v us rest → ⊥

-- the units begin a spelling
pub record IsLive {V : Type 0} (R : Fielding) (L : V → List Chunk → Type 0) (us : List ℕ) : Type 0 where
  pub value : V
  pub chunks : List Chunk
  pub spelt : L value chunks
  pub front : IsFront R chunks us

-- the units begin a spelling, and no front of them is one
pub record Short {V : Type 0} (R : Fielding) (L : V → List Chunk → Type 0) (us : List ℕ) : Type 0 where
  pub live : IsLive R L us
  pub none : NoSpelling R L us

-- no front is a spelling, and the first unit after which none can follow has this many units after it
pub record Refused {V : Type 0} (R : Fielding) (L : V → List Chunk → Type 0) (us : List ℕ) (left : ℕ) : Type 0 where
  pub before : List ℕ
  pub unit : ℕ
  pub after : List ℕ
  pub split : us ≡ before ++ unit ∷ after
  pub left_is : length after ≡ left
  pub live : IsLive R L before
  pub dead : IsLive R L (before ++ unit ∷ []) → ⊥
  pub none : NoSpelling R L us

-- the units are a spelling, with nothing after it
abbrev pub Whole : {V : Type 0} → Fielding → (V → List Chunk → Type 0) → V → List ℕ → Type 0
Whole R L v us = Spells R L v us []

-- the first language is what is left of the second after these units
pub record Carries {V : Type 0} (R : Fielding) (M L : V → List Chunk → Type 0) (us : List ℕ) : Type 0 where
  pub reads : (v : V) (s r : List ℕ) → Spells R M v s r → Spells R L v (us ++ s) r
  pub read : (v : V) (s r : List ℕ) → Spells R L v (us ++ s) r → Spells R M v s r
  pub lives : (s : List ℕ) → IsLive R M s → IsLive R L (us ++ s)
  pub live : (s : List ℕ) → IsLive R L (us ++ s) → IsLive R M s

-- ---- laws

-- two spellings are one, of one value, or they part, and are of two values
pub record Lawful {V : Type 0} (L : V → List Chunk → Type 0) : Type 0 where
  pub law : (v w : V) (x y : List Chunk) → L v x → L w y → ((v ≡ w) × (x ≡ y)) ⊎ ((v ≢ w) × Parted x y)

-- some value has a spelling
pub record Inhabited {V : Type 0} (L : V → List Chunk → Type 0) : Type 0 where
  pub value : V
  pub chunks : List Chunk
  pub spelt : L value chunks

-- ---- languages from languages

-- one after the other, where the first value may decide what follows
pub record Then {A B : Type 0} (L : A → List Chunk → Type 0) (M : A → B → List Chunk → Type 0) (p : A × B)
    (cs : List Chunk) : Type 0 where
  pub first : List Chunk
  pub second : List Chunk
  pub spelt : L p.0 first
  pub follows : M p.0 p.1 second
  pub whole : cs ≡ first ++ second

-- the same spellings under another view of the values
pub record Map {A B : Type 0} (f : A → B) (L : A → List Chunk → Type 0) (b : B) (cs : List Chunk) : Type 0 where
  pub source : A
  pub spelt : L source cs
  pub seen : b ≡ f source

-- one value, which is spelt by nothing
pub record Nothing {A : Type 0} (a : A) (b : A) (cs : List Chunk) : Type 0 where
  pub same : b ≡ a
  pub empty : cs ≡ []

-- a value before others
abbrev pub prepended : {A : Type 0} → A × List A → List A
prepended p = p.0 ∷ p.1

-- n values in a row
abbrev pub Row : {A : Type 0} → (A → List Chunk → Type 0) → ℕ → List A → List Chunk → Type 0
Row L zero = Nothing []
Row L (suc n) = Map prepended (Then L (λ _. Row L n))

-- plain units, of which C says which value they stand for
pub record Plain {A : Type 0} (C : A → List ℕ → Type 0) (a : A) (cs : List Chunk) : Type 0 where
  pub units : List ℕ
  pub spelt : C a units
  pub same : cs ≡ ones units

-- a sealed field, of whose content C says which value it stands for
pub record Sealed {A : Type 0} (k : Kind) (C : A → List ℕ → Type 0) (a : A) (cs : List Chunk) : Type 0 where
  pub content : List ℕ
  pub spelt : C a content
  pub same : cs ≡ sealed k content ∷ []

-- some value has a content
pub record SomeContent {A : Type 0} (C : A → List ℕ → Type 0) : Type 0 where
  pub value : A
  pub content : List ℕ
  pub spelt : C value content
