-- Languages of the same spellings, whatever the values.
use Rattle.std.proofs.Common.{◌≡◌, ℕ, zero, suc, List, [], refl, sym, ◌∙◌}
use Rattle.asn_rules.specs.Chunks.{Kind, Chunk}
use Rattle.asn_rules.specs.Forks.{Same}
use Rattle.asn_rules.specs.General.{Body, Within, General, Length, last, fragment, Left, together, after_first}
use Rattle.asn_rules.specs.Languages.{Then, Map, Nothing, Row, Sealed, prepended}
use Rattle.asn_rules.specs.Live.{Fielding}
use Rattle.asn_rules.specs.Padding.{Padded}
use Rattle.asn_rules.specs.Spellings.{SpelledBy}
use Rattle.asn_walk.specs.Ahead.{Ahead, items, lengths, end, Remaining}

-- each spelling of the first language is one of the second
abbrev pub Covers : {V W : Type 0} → (V → List Chunk → Type 0) → (W → List Chunk → Type 0) → Type 0
Covers {V} {W} L M = (v : V) (cs : List Chunk) → L v cs → (w : W) × M w cs

pub covers_self : {V : Type 0} (L : V → List Chunk → Type 0) → Covers L L
covers_self L v cs h = (v, h)

pub covers_on : {U V W : Type 0} {K : U → List Chunk → Type 0} {L : V → List Chunk → Type 0} {M : W → List Chunk → Type 0}
    → Covers K L → Covers L M → Covers K M
covers_on f g u cs h = let v = f u cs h in g v.0 cs v.1

pub covers_to : {V : Type 0} {L M : V → List Chunk → Type 0} → Same L M → Covers L M
covers_to s v cs h = (v, s.to v cs h)

pub covers_from : {V : Type 0} {L M : V → List Chunk → Type 0} → Same L M → Covers M L
covers_from s v cs h = (v, s.from v cs h)

pub covers_nothing : {A B : Type 0} (a : A) (b : B) → Covers (Nothing a) (Nothing b)
covers_nothing a b v cs h = (b, record { same = refl; empty = h.empty })

pub covers_map : {A B V W : Type 0} (f : A → V) (g : B → W) {L : A → List Chunk → Type 0} {M : B → List Chunk → Type 0}
    → Covers L M → Covers (Map f L) (Map g M)
covers_map f g k v cs h = let w = k h.source cs h.spelt in (g w.0, record { source = w.0; spelt = w.1; seen = refl })

-- after the same first value
pub covers_after : {A B C : Type 0} {L : A → List Chunk → Type 0} {M : A → B → List Chunk → Type 0} {N : A → C → List Chunk → Type 0}
    → ((a : A) → Covers (M a) (N a)) → Covers (Then L M) (Then L N)
covers_after k p cs h =
    let w = k p.0 p.1 h.second h.follows in
    ((p.0, w.0), record { first = h.first; second = h.second; spelt = h.spelt; follows = w.1; whole = h.whole })

-- one after the other
pub covers_both : {A B V W : Type 0} {L : A → List Chunk → Type 0} {M : B → List Chunk → Type 0} {P : V → List Chunk → Type 0} {Q : W → List Chunk → Type 0}
    → Covers L M → Covers P Q → Covers (Then L (λ a. P)) (Then M (λ b. Q))
covers_both f g p cs h =
    let v = f p.0 h.first h.spelt in
    let w = g p.1 h.second h.follows in
    ((v.0, w.0), record { first = h.first; second = h.second; spelt = v.1; follows = w.1; whole = h.whole })

-- ---- lists

pub covers_row : {A B : Type 0} {L : A → List Chunk → Type 0} {M : B → List Chunk → Type 0} → Covers L M → (n : ℕ)
    → Covers (Row L n) (Row M n)
covers_row k zero = covers_nothing [] []
covers_row k (suc n) = covers_map prepended prepended (covers_both k (covers_row k n))

covers_within : {A B : Type 0} {L : A → List Chunk → Type 0} {M : B → List Chunk → Type 0} → Covers L M → (f : ℕ)
    (S : ℕ → Type 0) → Covers (Within L f S) (Within M f S)
covers_within k zero S v cs h = absurd h
covers_within {A} {B} {L} {M} k (suc f) S v cs h =
    covers_map after_first after_first (covers_after (body (λ T. covers_within k f T))) v cs h
  where
    body : ((T : ℕ → Type 0) → Covers (Within L f T) (Within M f T)) → (l : Length) → Covers (Body L (Within L f) S l) (Body M (Within M f) S l)
    body again (last n) = covers_row k n
    body again (fragment m) = covers_map together together (covers_both (covers_row k _) (again (Left S m)))

covers_general : {A B : Type 0} {L : A → List Chunk → Type 0} {M : B → List Chunk → Type 0} → Covers L M
    → (S : ℕ → Type 0) → Covers (General L S) (General M S)
covers_general k S v cs h =
    let w = covers_within k h.lengths S v cs h.spelt in
    (w.0, record { lengths = h.lengths; spelt = w.1 })

pub covers_remaining : {A B : Type 0} {L : A → List Chunk → Type 0} {M : B → List Chunk → Type 0} → Covers L M
    → (a : Ahead) → Covers (Remaining L a) (Remaining M a)
covers_remaining k (items n) = covers_row k n
covers_remaining k (lengths is so_far closed) = covers_general k _
covers_remaining k end = covers_nothing [] []

-- ---- sealed fields, and what fills up a spelling

pub covers_sealed : {A B : Type 0} (k : Kind) {C : A → List ℕ → Type 0} {D : B → List ℕ → Type 0}
    → ((a : A) (c : List ℕ) → C a c → (b : B) × D b c) → Covers (Sealed k C) (Sealed k D)
covers_sealed k f a cs h =
    let w = f a h.content h.spelt in
    (w.0, record { content = h.content; spelt = w.1; same = h.same })

pub covers_padded : {A B : Type 0} (R : Fielding) (fill : ℕ → List ℕ) {P : A → Type 0} {code : A → List Chunk} {Q : B → Type 0} {other : B → List Chunk}
    → Covers (SpelledBy P code) (SpelledBy Q other) → Covers (Padded R fill (SpelledBy P code)) (Padded R fill (SpelledBy Q other))
covers_padded R fill {P} {code} {Q} {other} k a cs h =
    let t = h.spelt in
    let w = k h.source.0 t.first t.spelt in
    let e : t.follows.chunks ≡ t.first = t.follows.spelt.same ∙ sym t.spelt.same in (
      w.0,
      record {
        source = (w.0, h.source.1);
        spelt = record {
          first = t.first;
          second = t.second;
          spelt = w.1;
          follows = record { chunks = t.first; spelt = w.1; filling = rw e at t.follows.filling };
          whole = t.whole;
        };
        seen = refl;
      },
    )
