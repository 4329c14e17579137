-- How items that stand in fragments go on where a reader of them was cut: those of a list, and the octets of an open
-- type field.
use Rattle.std.specs.Prelude.{◌≡◌, ◌≤◌, ◌+◌, ◌*◌, ◌⊎◌, ℕ, zero, suc, List, [], ◌++◌, length, map, Some, None}
use Rattle.asn_values.specs.Shape.{Shape}
use Rattle.asn_rules.specs.Chunks.{Chunk}
use Rattle.asn_rules.specs.Listed.{Spelt}
use Rattle.asn_walk.specs.Ahead.{Ahead, SomeAhead, Next}
use Rattle.asn_walk.specs.Coding.{Coding}
use Rattle.asn_walk.proofs.Listing.{Appends, Going}
use Rattle.asn_walk_feed.specs.Feeding.{NextOf, Waits}
use Rattle.asn_walk_feed.specs.Small.{IsSmall}
use Rattle.asn_walk_feed.specs.Weights.{total, Weighs}
use Rattle.asn_walk_feed.specs.declared.frame.Elements.{Elements}
use Rattle.asn_walk_feed.specs.declared.frame.Frame.{Frame}

-- within a fragment of a list: these elements have been read, then come this many of the fragment, and then what is
-- ahead
pub record InFragment {A : Type 0} (c : Coding) (L : A → List Chunk → Type 0) (T : List A → List Chunk → Type 0)
    (left : ℕ) (ahead : Ahead) (elements : List A) (us come : List ℕ) : Type 0 where
  pub before : List A
  pub was : Ahead
  pub done : ℕ
  pub count : ℕ
  pub rest : List ℕ
  pub first : List ℕ
  pub sum : done + left ≡ count
  pub next : Next c.ruling.fielding was (Some count) ahead rest first
  pub so_far : Appends c.ruling.fielding L done before elements first come
  pub going : Going c L T us was before rest

-- the same, also between fragments
abbrev pub Stands : {A : Type 0} → Coding → (A → List Chunk → Type 0) → (List A → List Chunk → Type 0) → ℕ → Ahead
    → List A → List ℕ → List ℕ → Type 0
Stands c L T zero ahead elements us come = Going c L T us ahead elements come
Stands c L T (suc n) ahead elements us come = InFragment c L T (suc n) ahead elements us come

-- the list goes on: whatever units follow, its elements stand, of all units, in front of those of the part that has
-- begun and of the units that are left, and some are ahead; and P holds of those of the part. What is seen of the
-- elements is of the language L, of all of them of the language T, and of those that stand before the first length of
-- the language S. The elements weigh no more than the units in front of those of the part allow
pub record GoesOn {F A V : Type 0} (c : Coding) (ahead : F → Ahead) (between : F → Type 0)
    (S : List A → List Chunk → Type 0) (L : A → List Chunk → Type 0) (T : List A → List Chunk → Type 0) (seen : V → A)
    (q : Elements F V) (P : List ℕ → Type 0) (all units : List ℕ) : Type 0 where
  pub come : List ℕ
  pub between_is : between q.fragments
  pub some : SomeAhead (ahead q.fragments)
  pub stands : (more : List ℕ) → Stands c L T q.left (ahead q.fragments) (map seen q.elements.items) (all ++ more)
      ((come ++ units) ++ more)
  pub light : (w : A → ℕ) (k : ℕ) → Weighs c.ruling.fielding S (total w) k → Weighs c.ruling.fielding L w k
      → total w (map seen q.elements.items) + k * length (come ++ units) ≤ k * length all
  pub inner : P come

-- the part of a list that has begun: between fragments the next length, within one the next element
abbrev pub NextPart : {F : Type 0} → ℕ → List (Frame F) → (List ℕ → Type 0) → (List ℕ → Type 0) → List ℕ → Type 0
NextPart zero fs Length Element come = (fs ≡ []) × Length come
NextPart (suc n) fs Length Element come = Element come

-- the same, where Element says it of the next element: of its bits that are kept, and of the nodes that have begun
abbrev pub ItemsGoOn : {F A V : Type 0} → Coding → (F → Ahead) → (F → Type 0) → (List A → List Chunk → Type 0)
    → (A → List Chunk → Type 0) → (List A → List Chunk → Type 0) → (V → A)
    → (List ℕ → List (Frame F) → List ℕ → Type 0) → Elements F V → List (Frame F) → List ℕ → List ℕ → Type 0
ItemsGoOn c ahead between S L T seen Element q fs all units =
    GoesOn c ahead between S L T seen q (NextPart q.left fs
    (λ come. Waits c (NextOf (ahead q.fragments)) q.next_part come) (λ come. Element q.next_part fs come)) all units

-- the units that have come of an element of a list. Those of a small type may wait as they are: no node of it has begun
-- then. Else no node of it has begun before its first unit, and Value says which units the nodes have taken
abbrev pub ElementCame : {F : Type 0} → Coding → List ℕ → List (Frame F) → Shape → (List ℕ → Type 0) → List ℕ → Type 0
ElementCame c begun fs t Value us = ((begun ≡ []) × (Value us × (us ≡ [] → fs ≡ [])))
    ⊎ ((fs ≡ []) × (IsSmall t × Waits c (Spelt c.code None t) begun us))
