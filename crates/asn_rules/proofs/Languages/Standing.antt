-- Spellings that stand in others, after chunks that are read: where units end in a sealed field of the one, they end in
-- that field of the other, and what is kept of it is the same.
use Rattle.std.proofs.Common.{◌≡◌, inl, inr, ℕ, zero, suc, ◌+◌, ◌*◌, List, [], ◌∷◌, ◌++◌, sym, ap, ◌∙◌, refl, subst, append_assoc, arith}
use Rattle.std.proofs.lemmas.List.{append-nil}
use Rattle.asn_rules.specs.Begun.{AllPlain}
use Rattle.asn_rules.specs.Chunks.{Chunk, one, sealed, ones, flat, field_units}
use Rattle.asn_rules.specs.Forks.{Same}
use Rattle.asn_rules.specs.General.{Length, last, fragment, Left, Header, together, after_first, Body, General}
use Rattle.asn_rules.specs.Kept.{EndsIn}
use Rattle.asn_rules.specs.Languages.{AllContents, IsFront, Spells, IsLive, Inhabited, Then, Map, Nothing, Row, prepended}
use Rattle.asn_rules.specs.Live.{Fielding}
use Rattle.asn_rules.specs.Padding.{first_of, Fills, Padded}
use Rattle.asn_rules.proofs.Live.Chunks.{FieldsPart, contents-append}
use Rattle.asn_rules.proofs.Live.Flat.{flat-append}
use Rattle.asn_rules.proofs.Languages.Then.{Follows, then_splits}
use Rattle.asn_rules.proofs.Languages.Parts.{map_source}
use Rattle.asn_rules.proofs.Languages.Rows.{row_inhabited}
use Rattle.asn_rules.proofs.Numbers.General.{general_once, general_follows, rest_follows}
use Rattle.asn_rules.proofs.Sealed.Padding.{fills_follow}

-- ---- where units end

-- in x, so in x ++ y
ends_longer : (R : Fielding) (x y : List Chunk) (us os : List ℕ) → EndsIn R x us os → EndsIn R (x ++ y) us os
ends_longer R x y [] os h = h
ends_longer R [] y (u ∷ us) os h = absurd h
ends_longer R (one a ∷ x) y (u ∷ us) os h = (h.0, ends_longer R x y us os h.1)
ends_longer R (sealed k c ∷ x) y (u ∷ us) os (inl h) = inl h
ends_longer R (sealed k c ∷ x) y (u ∷ us) os (inr h) = inr (h.0, h.1, ends_longer R x y h.0 os h.2)

-- in y, so after x
ends_after : {R : Fielding} → FieldsPart R → (x y : List Chunk) (us os : List ℕ) → AllContents R x → EndsIn R y us os → EndsIn R (x ++ y) (flat R.spelled x ++ us) os
ends_after ok [] y us os f h = h
ends_after ok (one a ∷ x) y us os f h = (refl, ends_after ok x y us os f h)
ends_after {R} ok (sealed k c ∷ x) y us os f h = go (field_units R.spelled k c) refl (ends_after ok x y us os f.1 h)
  where
    go : (g : List ℕ) → field_units R.spelled k c ≡ g → EndsIn R (x ++ y) (flat R.spelled x ++ us) os → EndsIn R (sealed k c ∷ (x ++ y)) ((g ++ flat R.spelled x) ++ us) os
    go [] e q = absurd (ok.some_units k c f.0 e)
    go (u ∷ g) e q = inr (flat R.spelled x ++ us, append_assoc (u ∷ g) (flat R.spelled x) us ∙ ap (λ (l : List ℕ). l ++ (flat R.spelled x ++ us)) (sym e), q)

-- in plain units, so in no field
ends_plain : (R : Fielding) (ws us : List ℕ) → IsFront R (ones ws) us → EndsIn R (ones ws) us []
ends_plain R ws [] h = refl
ends_plain R [] (u ∷ us) h = absurd h
ends_plain R (w ∷ ws) (u ∷ us) h = (h.0, ends_plain R ws us h.1)

-- ---- spellings in which units end so

-- the units end in a spelling of the language, and these octets are kept
pub record Opens {V : Type 0} (R : Fielding) (L : V → List Chunk → Type 0) (us os : List ℕ) : Type 0 where
  pub value : V
  pub chunks : List Chunk
  pub spelt : L value chunks
  pub ends : EndsIn R chunks us os

-- no unit has come
pub opens_none : {V : Type 0} {R : Fielding} {L : V → List Chunk → Type 0} → Inhabited L → Opens R L [] []
opens_none i = record { value = i.value; chunks = i.chunks; spelt = i.spelt; ends = refl }

-- what begins a plain language ends in no field
pub opens_plain : {V : Type 0} {R : Fielding} {L : V → List Chunk → Type 0} {us : List ℕ} → AllPlain L → IsLive R L us → Opens R L us []
opens_plain {R = R} {us = us} a h =
    let p = a.plain h.value h.chunks h.spelt in
    let f : IsFront R (ones p.0) us = subst (λ (cs : List Chunk). IsFront R cs us) p.1 h.front in
    record { value = h.value; chunks = h.chunks; spelt = h.spelt; ends = subst (λ (cs : List Chunk). EndsIn R cs us []) (sym p.1) (ends_plain R p.0 us f) }

-- ---- where spellings stand

-- after the units of these chunks the units vs are left of us; there the spellings of M stand in spellings of L
pub record StandsIn {A B : Type 0} (R : Fielding) (M : B → List Chunk → Type 0) (vs : List ℕ) (L : A → List Chunk → Type 0) (us : List ℕ) : Type 0 where
  pub front : List Chunk
  pub contents : AllContents R front
  pub split : us ≡ flat R.spelled front ++ vs
  pub within : (b : B) (cs : List Chunk) → M b cs → (a : A) × (after : List Chunk) × L a (front ++ (cs ++ after))

-- so what ends in those ends in these
pub opens_in : {A B : Type 0} {R : Fielding} {M : B → List Chunk → Type 0} {vs : List ℕ} {L : A → List Chunk → Type 0} {us os : List ℕ} → FieldsPart R → StandsIn R M vs L us → Opens R M vs os → Opens R L us os
opens_in {R = R} {vs = vs} {os = os} ok s h =
    let w = s.within h.value h.chunks h.spelt in
    let cs = s.front ++ (h.chunks ++ w.1) in
    let there : EndsIn R cs (flat R.spelled s.front ++ vs) os = ends_after ok s.front (h.chunks ++ w.1) vs os s.contents (ends_longer R h.chunks w.1 vs os h.ends) in
    record { value = w.0; chunks = cs; spelt = w.2; ends = subst (λ (l : List ℕ). EndsIn R cs l os) (sym s.split) there }

-- after no chunk
here : {A B : Type 0} {R : Fielding} {M : B → List Chunk → Type 0} {L : A → List Chunk → Type 0} (us : List ℕ) (f : B → A) → ((b : B) (cs : List Chunk) → M b cs → L (f b) cs) → StandsIn R M us L us
here {L = L} us f h = record { front = []; contents = tt; split = refl; within = λ b cs k. (f b, [], subst (λ (l : List Chunk). L (f b) l) (sym (append-nil cs)) (h b cs k)) }

pub stands_here : {A : Type 0} (R : Fielding) (L : A → List Chunk → Type 0) (us : List ℕ) → StandsIn R L us L us
stands_here R L us = here us (λ a. a) (λ a cs h. h)

-- one within the other
pub stands_on : {A B C : Type 0} {R : Fielding} {N : C → List Chunk → Type 0} {ws : List ℕ} {M : B → List Chunk → Type 0} {vs : List ℕ} {L : A → List Chunk → Type 0} {us : List ℕ}
    → StandsIn R N ws M vs → StandsIn R M vs L us → StandsIn R N ws L us
stands_on {R = R} {N = N} {ws = ws} {L = L} p q = record {
  front = q.front ++ p.front;
  contents = contents-append R q.front p.front q.contents p.contents;
  split = q.split ∙ ap (λ (l : List ℕ). flat R.spelled q.front ++ l) p.split ∙ sym (append_assoc (flat R.spelled q.front) (flat R.spelled p.front) ws) ∙ ap (λ (l : List ℕ). l ++ ws) (sym (flat-append R.spelled q.front p.front));
  within = λ c cs h.
      let x = p.within c cs h in
      let y = q.within x.0 (p.front ++ (cs ++ x.1)) x.2 in
      (y.0, x.1 ++ y.1, subst (λ (l : List Chunk). L y.0 l) (joined q.front p.front cs x.1 y.1) y.2);
}
  where
    joined : (f g cs a b : List Chunk) → f ++ ((g ++ (cs ++ a)) ++ b) ≡ (f ++ g) ++ (cs ++ (a ++ b))
    joined f g cs a b = ap (λ (l : List Chunk). f ++ l) (append_assoc g (cs ++ a) b ∙ ap (λ (l : List Chunk). g ++ l) (append_assoc cs a b)) ∙ sym (append_assoc f g (cs ++ (a ++ b)))

-- under another view of the values
pub stands_map : {A B : Type 0} (R : Fielding) (f : B → A) (L : B → List Chunk → Type 0) (us : List ℕ) → StandsIn R L us (Map f L) us
stands_map R f L us = here us f (λ b cs h. record { source = b; spelt = h; seen = refl })

-- in a language of the same spellings
pub stands_same : {A : Type 0} (R : Fielding) {M L : A → List Chunk → Type 0} (us : List ℕ) → Same M L → StandsIn R M us L us
stands_same R us s = here us (λ a. a) s.to

-- the first of two
pub stands_first : {A B : Type 0} (R : Fielding) {L : A → List Chunk → Type 0} {M : A → B → List Chunk → Type 0} (us : List ℕ) → Follows L M → StandsIn R L us (Then L M) us
stands_first R us f = record {
  front = [];
  contents = tt;
  split = refl;
  within = λ a cs h. (let g = f.follow a cs h in ((a, g.value), g.chunks, record { first = cs; second = g.chunks; spelt = h; follows = g.spelt; whole = refl }));
}

-- the second, after a value of the first
pub stands_second : {A B : Type 0} {R : Fielding} {L : A → List Chunk → Type 0} {M : A → B → List Chunk → Type 0} {a : A} {us r : List ℕ} → Spells R L a us r → StandsIn R (M a) r (Then L M) us
stands_second {a = a} h = record {
  front = h.chunks;
  contents = h.contents;
  split = h.split;
  within = λ b cs k. ((a, b), [], record { first = h.chunks; second = cs; spelt = h.spelt; follows = k; whole = ap (λ (l : List Chunk). h.chunks ++ l) (append-nil cs) });
}

-- nothing, after a whole spelling
pub stands_end : {A B : Type 0} {R : Fielding} {L : A → List Chunk → Type 0} {b : B} {v : A} {us r : List ℕ} → Spells R L v us r → StandsIn R (Nothing b) r L us
stands_end {L = L} {v = v} h = record {
  front = h.chunks;
  contents = h.contents;
  split = h.split;
  within = λ x cs k. (v, [], subst (λ (l : List Chunk). L v l) (sym (ap (λ (c : List Chunk). h.chunks ++ (c ++ [])) k.empty ∙ append-nil h.chunks)) h.spelt);
}

-- ---- rows

-- after i values those that are left
pub stands_row : {A : Type 0} {R : Fielding} (L : A → List Chunk → Type 0) (i m k : ℕ) {vs : List A} {us r : List ℕ} → i + m ≡ k → Spells R (Row L i) vs us r → StandsIn R (Row L m) r (Row L k) us
stands_row {A} {R} L zero m k {us = us} {r = r} e f =
    let q : m ≡ k = omega arith in
    let same : us ≡ r = f.split ∙ ap (λ cs. flat R.spelled cs ++ r) f.spelt.empty in
    subst (λ (n : ℕ). StandsIn R (Row L m) r (Row L n) us) q (subst (λ (l : List ℕ). StandsIn R (Row L m) r (Row L m) l) (sym same) (stands_here R (Row L m) r))
stands_row L (suc i) m zero e f = absurd (omega arith)
stands_row {A} {R} L (suc i) m (suc k) {us = us} e f =
    let b = then_splits (map_source f).1 in
    stands_on (stands_row L i m k (omega arith) b.later) (stands_on (stands_second {M = λ _. Row L k} b.earlier) (stands_map R prepended (Then L (λ _. Row L k)) us))

-- the next of them
pub stands_next : {A : Type 0} {R : Fielding} (L : A → List Chunk → Type 0) (i m k : ℕ) {vs : List A} {us r : List ℕ} → Inhabited L → i + suc m ≡ k → Spells R (Row L i) vs us r → StandsIn R L r (Row L k) us
stands_next {R = R} L i m k {r = r} some e h =
    stands_on (stands_on (stands_first R {M = λ _. Row L m} r (record { follow = λ a x g. row_inhabited some m })) (stands_map R prepended (Then L (λ _. Row L m)) r)) (stands_row L i (suc m) k e h)

-- ---- items under their general length

-- what follows a length
stands_body : {A : Type 0} {R : Fielding} (L : A → List Chunk → Type 0) {S : ℕ → Type 0} {l : Length} {us r : List ℕ} → Spells R (Header S) l us r → StandsIn R (Body L (General L) S l) r (General L S) us
stands_body {R = R} L {S} {us = us} h =
    stands_on (stands_on (stands_second {M = Body L (General L) S} h) (stands_map R after_first (Then (Header S) (Body L (General L) S)) us)) (stands_same R us (general_once L S))

-- a length
pub stands_length : {A : Type 0} {L : A → List Chunk → Type 0} {S : ℕ → Type 0} (R : Fielding) (us : List ℕ) → Inhabited L → StandsIn R (Header S) us (General L S) us
stands_length {L = L} {S = S} R us i =
    stands_on (stands_on (stands_first R us (general_follows S i)) (stands_map R after_first (Then (Header S) (Body L (General L) S)) us)) (stands_same R us (general_once L S))

-- the items after the last length
pub stands_last : {A : Type 0} {R : Fielding} (L : A → List Chunk → Type 0) {S : ℕ → Type 0} {n : ℕ} {us r : List ℕ} → Spells R (Header S) (last n) us r → StandsIn R (Row L n) r (General L S) us
stands_last L h = stands_body L h

-- the items of a fragment
pub stands_fragment : {A : Type 0} {R : Fielding} (L : A → List Chunk → Type 0) {S : ℕ → Type 0} {m : ℕ} {us r : List ℕ} → Inhabited L → Spells R (Header S) (fragment m) us r → StandsIn R (Row L (16384 * m)) r (General L S) us
stands_fragment {R = R} L {S} {m} {r = r} i h =
    stands_on (stands_on (stands_first R r (rest_follows i h)) (stands_map R together (Then (Row L (16384 * m)) (λ _. General L (Left S m))) r)) (stands_body L h)

-- what follows a fragment
pub stands_rest : {A : Type 0} {R : Fielding} (L : A → List Chunk → Type 0) {S : ℕ → Type 0} {m : ℕ} {vs : List A} {us r s : List ℕ} → Spells R (Header S) (fragment m) us r → Spells R (Row L (16384 * m)) vs r s → StandsIn R (General L (Left S m)) s (General L S) us
stands_rest {R = R} L {S} {m} {r = r} h f =
    stands_on (stands_on (stands_second {M = λ _. General L (Left S m)} f) (stands_map R together (Then (Row L (16384 * m)) (λ _. General L (Left S m))) r)) (stands_body L h)

-- ---- what fills up

-- the spelling before it
pub stands_padded : {A : Type 0} (R : Fielding) (fill : ℕ → List ℕ) (L : A → List Chunk → Type 0) (us : List ℕ) → StandsIn R L us (Padded R fill L) us
stands_padded R fill L us = stands_on (stands_first R us fills_follow) (stands_map R first_of (Then L (Fills R fill L)) us)
