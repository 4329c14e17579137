-- What values weigh, set against the units of their spellings: how much of a list or a SEQUENCE is built is at most as
-- much as its units allow.
use Rattle.std.specs.Prelude.{◌≡◌, ◌≤◌, ◌+◌, ◌*◌, ℕ, Bool, List, [], ◌∷◌, length, Option}
use Rattle.asn_values.specs.Datum.{Datum}
use Rattle.asn_values.specs.Parts.{IsGoodDemand}
use Rattle.asn_values.specs.Profile.{InProfile}
use Rattle.asn_values.specs.Shape.{Shape}
use Rattle.asn_values.specs.View.{Part}
use Rattle.asn_rules.specs.Chunks.{Chunk, flat}
use Rattle.asn_rules.specs.Listed.{Entry}
use Rattle.asn_rules.specs.Live.{Fielding}
use Rattle.asn_walk.specs.Coding.{Coding}

-- the sum over a list
abbrev pub total : {A : Type 0} → (A → ℕ) → List A → ℕ
total w [] = 0
total w (x ∷ xs) = w x + total w xs

-- a value weighs at most k for each unit of its spelling
abbrev pub Weighs : {A : Type 0} → Fielding → (A → List Chunk → Type 0) → (A → ℕ) → ℕ → Type 0
Weighs {A} R L w k = (a : A) (cs : List Chunk) → L a cs → w a ≤ k * length (flat R.spelled cs)

-- no item stands before the first length of a list
abbrev pub NoItem : {A : Type 0} → List A → List Chunk → Type 0
NoItem vs cs = vs ≡ []

-- the entry of a component weighs at most as much as its type allows, where it is spelt by at most n units
abbrev pub EntriesWeigh : Coding → (Option Datum → ℕ) → (Shape → ℕ) → ℕ → Type 0
EntriesWeigh c w b n = (p : Part) (present : Bool) (e : Option Datum) (cs : List Chunk) → InProfile p.shape
    → IsGoodDemand p.demand p.shape → Entry c.code p.demand p.shape present e cs
    → length (flat c.ruling.fielding.spelled cs) ≤ n → w e ≤ b p.shape

-- what the types of these components allow together
abbrev pub allowed : (Shape → ℕ) → List Part → ℕ
allowed b ps = total (λ (p : Part). b p.shape) ps
