-- One language after the other: laws, and what readers of the parts say of the whole.
use Rattle.std.proofs.Common.{◌≡◌, ◌≢◌, ℕ, ◌⊎◌, inl, inr, ⊎_elim, List, [], ◌∷◌, ◌++◌, refl, sym, ap, ◌∙◌, subst, append_assoc}
use Rattle.std.proofs.lemmas.List.{append_cancel_left}
use Rattle.asn_rules.proofs.Live.Chunks.{FieldsPart, contents-append, contents-first, contents-second, whole_not_begun, front_shorter, front_longer, front_after, front_parts, After, field_front, parted_front, parted_units, parted_after, parted_longer}
use Rattle.asn_rules.proofs.Live.Flat.{flat-append}
use Rattle.asn_rules.proofs.Live.Lists.{not_empty, not_last}
use Rattle.asn_rules.specs.Chunks.{Chunk, one, sealed, flat, field_units}
use Rattle.asn_rules.specs.Languages.{AllContents, IsFront, Spells, NoSpelling, IsLive, Short, Refused, Lawful, Inhabited, Then}
use Rattle.asn_rules.specs.Live.{Fielding}
use Rattle.asn_rules.specs.Parted.{Parted}

-- Of one list there is one front that is a spelling, of one value.
pub one_front : {V : Type 0} {R : Fielding} {L : V → List Chunk → Type 0} {v w : V} {us r s : List ℕ} → FieldsPart R → Lawful L → Spells R L v us r → Spells R L w us s → (v ≡ w) × (r ≡ s)
one_front {V} {R} {L} {v} {w} {us} {r} {s} ok law a b = go (law.law v w a.chunks b.chunks a.spelt b.spelt)
  where
    e : flat R.spelled a.chunks ++ r ≡ flat R.spelled b.chunks ++ s
    e = sym a.split ∙ b.split

    go : ((v ≡ w) × (a.chunks ≡ b.chunks)) ⊎ ((v ≢ w) × Parted a.chunks b.chunks) → (v ≡ w) × (r ≡ s)
    go (inl p) = (p.0, append_cancel_left (flat R.spelled a.chunks) r s (e ∙ ap (λ c. flat R.spelled c ++ s) (sym p.1)))
    go (inr p) = absurd (parted_units ok a.chunks b.chunks r s a.contents b.contents p.1 e)

-- a language in which some value is spelt is live at no units
pub live_nothing : {V : Type 0} {R : Fielding} {L : V → List Chunk → Type 0} → Inhabited L → IsLive R L []
live_nothing i = record { value = i.value; chunks = i.chunks; spelt = i.spelt; front = tt }

-- what is live at more units is live at fewer
pub live_shorter : {V : Type 0} {R : Fielding} {L : V → List Chunk → Type 0} (us t : List ℕ) → IsLive R L (us ++ t) → IsLive R L us
live_shorter {V} {R} us t h = record { value = h.value; chunks = h.chunks; spelt = h.spelt; front = front_shorter R h.chunks us t h.front }

-- one after the other is lawful
pub then_lawful : {A B : Type 0} {L : A → List Chunk → Type 0} {M : A → B → List Chunk → Type 0} → Lawful L → ((a : A) → Lawful (M a)) → Lawful (Then L M)
then_lawful {A} {B} {L} {M} l m = record { law = λ v w x y a b. go v w x y a b (l.law v.0 w.0 a.first b.first a.spelt b.spelt) }
  where
    go2 : (v w : A × B) (x y : List Chunk) (a : Then L M v x) (b : Then L M w y) → v.0 ≡ w.0 → a.first ≡ b.first → ((v.1 ≡ w.1) × (a.second ≡ b.second)) ⊎ ((v.1 ≢ w.1) × Parted a.second b.second) → ((v ≡ w) × (x ≡ y)) ⊎ ((v ≢ w) × Parted x y)
    go2 v w x y a b p q (inl r) = inl (λ i. (p i, r.0 i), let e = a.whole in let f = b.whole in let g = r.1 in cc)
    go2 v w x y a b p q (inr r) = inr (λ e. r.0 (ap (λ (z : A × B). z.1) e), rw (a.whole, b.whole, q) (parted_after b.first a.second b.second r.1))

    go : (v w : A × B) (x y : List Chunk) (a : Then L M v x) (b : Then L M w y) → ((v.0 ≡ w.0) × (a.first ≡ b.first)) ⊎ ((v.0 ≢ w.0) × Parted a.first b.first) → ((v ≡ w) × (x ≡ y)) ⊎ ((v ≢ w) × Parted x y)
    go v w x y a b (inl p) = go2 v w x y a b p.0 p.1 (let g : M v.0 w.1 b.second = rw p.0 b.follows in (m v.0).law v.1 w.1 a.second b.second a.follows g)
    go v w x y a b (inr p) = inr (λ e. p.0 (ap (λ (z : A × B). z.0) e), rw (a.whole, b.whole) (parted_longer a.first b.first a.second b.second p.1))

-- the first's front, and then the second's, is a front of both
pub then_spells : {A B : Type 0} {R : Fielding} {L : A → List Chunk → Type 0} {M : A → B → List Chunk → Type 0} {a : A} {b : B} {us r s : List ℕ} → Spells R L a us r → Spells R (M a) b r s → Spells R (Then L M) (a, b) us s
then_spells {R = R} {s = s} f g = record {
  chunks = f.chunks ++ g.chunks;
  spelt = record { first = f.chunks; second = g.chunks; spelt = f.spelt; follows = g.spelt; whole = refl };
  contents = contents-append R f.chunks g.chunks f.contents g.contents;
  split = f.split ∙ ap (λ (l : List ℕ). flat R.spelled f.chunks ++ l) g.split ∙ sym (append_assoc (flat R.spelled f.chunks) (flat R.spelled g.chunks) s) ∙ ap (λ (l : List ℕ). l ++ s) (sym (flat-append R.spelled f.chunks g.chunks));
}

-- both's front has a front of the first's
pub record Both {A B : Type 0} (R : Fielding) (L : A → List Chunk → Type 0) (M : A → B → List Chunk → Type 0) (v : A × B) (us s : List ℕ) : Type 0 where
  pub rest : List ℕ
  pub earlier : Spells R L v.0 us rest
  pub later : Spells R (M v.0) v.1 rest s

-- a front of both is a front of the first, and after it one of the second
pub then_splits : {A B : Type 0} {R : Fielding} {L : A → List Chunk → Type 0} {M : A → B → List Chunk → Type 0} {v : A × B} {us s : List ℕ} → Spells R (Then L M) v us s → Both R L M v us s
then_splits {R = R} {s = s} h =
    let t = h.spelt in
    let f : AllContents R (t.first ++ t.second) = rw (← t.whole) h.contents in
    record {
      rest = flat R.spelled t.second ++ s;
      earlier = record { chunks = t.first; spelt = t.spelt; contents = contents-first R t.first t.second f; split = h.split ∙ ap (λ c. flat R.spelled c ++ s) t.whole ∙ ap (λ (l : List ℕ). l ++ s) (flat-append R.spelled t.first t.second) ∙ append_assoc (flat R.spelled t.first) (flat R.spelled t.second) s };
      later = record { chunks = t.second; spelt = t.follows; contents = contents-second R t.first t.second f; split = refl };
    }

-- after what some value of the first spells, some value of the second is spelt
pub record Follows {A B : Type 0} (L : A → List Chunk → Type 0) (M : A → B → List Chunk → Type 0) : Type 0 where
  pub follow : (a : A) (x : List Chunk) → L a x → Inhabited (M a)

-- some value is spelt where some first value is, and after each some second
pub then_inhabited : {A B : Type 0} {L : A → List Chunk → Type 0} {M : A → B → List Chunk → Type 0} → Inhabited L → Follows L M → Inhabited (Then L M)
then_inhabited i f =
    let g = f.follow i.value i.chunks i.spelt in
    record { value = (i.value, g.value); chunks = i.chunks ++ g.chunks; spelt = record { first = i.chunks; second = g.chunks; spelt = i.spelt; follows = g.spelt; whole = refl } }

-- what begins the first begins both
pub then_live_first : {A B : Type 0} {R : Fielding} {L : A → List Chunk → Type 0} {M : A → B → List Chunk → Type 0} {us : List ℕ} → Follows L M → IsLive R L us → IsLive R (Then L M) us
then_live_first {R = R} {us = us} f h =
    let g = f.follow h.value h.chunks h.spelt in
    record { value = (h.value, g.value); chunks = h.chunks ++ g.chunks; spelt = record { first = h.chunks; second = g.chunks; spelt = h.spelt; follows = g.spelt; whole = refl }; front = front_longer R h.chunks g.chunks us h.front }

-- after the first, what begins the second begins both
pub then_live_second : {A B : Type 0} {R : Fielding} {L : A → List Chunk → Type 0} {M : A → B → List Chunk → Type 0} → FieldsPart R → (a : A) (x : List Chunk) (us : List ℕ) → L a x → AllContents R x → IsLive R (M a) us → IsLive R (Then L M) (flat R.spelled x ++ us)
then_live_second ok a x us l f h =
    record { value = (a, h.value); chunks = x ++ h.chunks; spelt = record { first = x; second = h.chunks; spelt = l; follows = h.spelt; whole = refl }; front = front_after ok x h.chunks us f h.front }

-- what begins both begins the first, or has a front of it
pub then_live_cases : {A B : Type 0} {R : Fielding} {L : A → List Chunk → Type 0} {M : A → B → List Chunk → Type 0} {us : List ℕ} → IsLive R (Then L M) us → IsLive R L us ⊎ ((a : A) × (r : List ℕ) × Spells R L a us r × IsLive R (M a) r)
then_live_cases {A} {B} {R} {L} {M} {us} h = go (front_parts R h.spelt.first h.spelt.second us (rw h.spelt.whole at h.front))
  where
    go : IsFront R h.spelt.first us ⊎ After R h.spelt.first h.spelt.second us → IsLive R L us ⊎ ((a : A) × (r : List ℕ) × Spells R L a us r × IsLive R (M a) r)
    go (inl q) = inl (record { value = h.value.0; chunks = h.spelt.first; spelt = h.spelt.spelt; front = q })
    go (inr q) = inr (h.value.0, q.rest, record { chunks = h.spelt.first; spelt = h.spelt.spelt; contents = q.contents; split = q.split }, record { value = h.value.1; chunks = h.spelt.second; spelt = h.spelt.follows; front = q.front })

-- nothing begins an encoding and goes on after it
pub front_over : {R : Fielding} → FieldsPart R → (x : List Chunk) (us : List ℕ) → AllContents R x → us ≢ [] → IsFront R x (flat R.spelled x ++ us) → ⊥
front_over ok [] [] f n h = n refl
front_over ok [] (u ∷ us) f n h = h
front_over ok (one a ∷ x) us f n h = front_over ok x us f n h.1
front_over {R} ok (sealed k c ∷ x) us fine n h =
    let e : (field_units R.spelled k c ++ flat R.spelled x) ++ us ≡ field_units R.spelled k c ++ (flat R.spelled x ++ us) = append_assoc (field_units R.spelled k c) (flat R.spelled x) us in
    ⊎_elim (whole_not_begun ok k c (flat R.spelled x ++ us) fine.0)
    (λ f. front_over ok x us fine.1 n (let e : f.0 ≡ flat R.spelled x ++ us = sym (append_cancel_left (field_units R.spelled k c) (flat R.spelled x ++ us) f.0 f.2) in rw e at f.3))
    (field_front R k c x (field_units R.spelled k c ++ (flat R.spelled x ++ us)) (not_empty (field_units R.spelled k c) (flat R.spelled x ++ us) (ok.some_units k c fine.0)) (rw e at h))

-- after a spelling of the first, what does not begin the second does not begin both
pub then_dead_second : {A B : Type 0} {R : Fielding} {L : A → List Chunk → Type 0} {M : A → B → List Chunk → Type 0} → FieldsPart R → Lawful L → (a : A) (x : List Chunk) (us : List ℕ) → L a x → AllContents R x → us ≢ [] → (IsLive R (M a) us → ⊥) → IsLive R (Then L M) (flat R.spelled x ++ us) → ⊥
then_dead_second {A} {B} {R} {L} {M} ok law a x us l fine full dead h = go (law.law h.value.0 a t.first x t.spelt l)
  where
    t : Then L M h.value h.chunks
    t = h.spelt

    begun : IsFront R (t.first ++ t.second) (flat R.spelled x ++ us)
    begun = rw t.whole at h.front

    same : h.value.0 ≡ a → t.first ≡ x → IsFront R t.first (flat R.spelled x ++ us) ⊎ After R t.first t.second (flat R.spelled x ++ us) → ⊥
    same p q (inl f) = front_over ok x us fine full (rw q at f)
    same p q (inr f) =
        let e : flat R.spelled x ++ f.rest ≡ flat R.spelled x ++ us = ap (λ c. flat R.spelled c ++ f.rest) (sym q) ∙ sym f.split in
        dead (record { value = h.value.1; chunks = t.second; spelt = subst (λ (z : A). M z h.value.1 t.second) p t.follows; front = rw (append_cancel_left (flat R.spelled x) f.rest us e) at f.front })

    go : ((h.value.0 ≡ a) × (t.first ≡ x)) ⊎ ((h.value.0 ≢ a) × Parted t.first x) → ⊥
    go (inl p) = same p.0 p.1 (front_parts R t.first t.second (flat R.spelled x ++ us) begun)
    go (inr p) = parted_front ok t.first x t.second us fine p.1 begun

-- no front of the first, so none of both
pub then_none_first : {A B : Type 0} {R : Fielding} {L : A → List Chunk → Type 0} {M : A → B → List Chunk → Type 0} {us : List ℕ} → NoSpelling R L us → NoSpelling R (Then L M) us
then_none_first n = λ v r h. n v.0 (then_splits h).rest (then_splits h).earlier

-- after a front of the first no front of the second, so none of both
pub then_none_second : {A B : Type 0} {R : Fielding} {L : A → List Chunk → Type 0} {M : A → B → List Chunk → Type 0} {a : A} {us r : List ℕ} → FieldsPart R → Lawful L → Spells R L a us r → NoSpelling R (M a) r → NoSpelling R (Then L M) us
then_none_second {A = A} {R = R} {M = M} {a = a} ok law f n = λ v s h.
    let b = then_splits h in
    let e = one_front ok law b.earlier f in
    let two : Spells R (M a) v.1 b.rest s = subst (λ (z : A). Spells R (M z) v.1 b.rest s) e.0 b.later in
    n v.1 s (rw e.1 at two)

-- The answers of the parts, as answers of the whole.
pub then_short_first : {A B : Type 0} {R : Fielding} {L : A → List Chunk → Type 0} {M : A → B → List Chunk → Type 0} {us : List ℕ} → Follows L M → Short R L us → Short R (Then L M) us
then_short_first f h = record { live = then_live_first f h.live; none = then_none_first h.none }

-- after a front of the first the second wants more, and so do both
pub then_short_second : {A B : Type 0} {R : Fielding} {L : A → List Chunk → Type 0} {M : A → B → List Chunk → Type 0} {a : A} {us r : List ℕ} → FieldsPart R → Lawful L → Spells R L a us r → Short R (M a) r → Short R (Then L M) us
then_short_second {a = a} {us = us} {r = r} ok law f h = record { live = rw f.split (then_live_second ok a f.chunks r f.spelt f.contents h.live); none = then_none_second ok law f h.none }

-- the first is refused, and so are both, at the same unit
pub then_refused_first : {A B : Type 0} {R : Fielding} {L : A → List Chunk → Type 0} {M : A → B → List Chunk → Type 0} {us : List ℕ} {n : ℕ} → Follows L M → Refused R L us n → Refused R (Then L M) us n
then_refused_first {R = R} {L = L} {us = us} f h = record {
  before = h.before;
  unit = h.unit;
  after = h.after;
  split = h.split;
  left_is = h.left_is;
  live = then_live_first f h.live;
  dead = λ g. ⊎_elim h.dead (λ p. h.none p.0 (p.1 ++ h.after) (record {
    chunks = p.2.chunks;
    spelt = p.2.spelt;
    contents = p.2.contents;
    split = h.split ∙ sym (append_assoc h.before (h.unit ∷ []) h.after) ∙ ap (λ (l : List ℕ). l ++ h.after) p.2.split ∙ append_assoc (flat R.spelled p.2.chunks) p.1 h.after;
  })) (then_live_cases g);
  none = then_none_first h.none;
}

-- after a front of the first the second is refused, and so are both, at the same unit
pub then_refused_second : {A B : Type 0} {R : Fielding} {L : A → List Chunk → Type 0} {M : A → B → List Chunk → Type 0} {a : A} {us r : List ℕ} {n : ℕ} → FieldsPart R → Lawful L → Spells R L a us r → Refused R (M a) r n → Refused R (Then L M) us n
then_refused_second {R = R} {L = L} {M = M} {a = a} {us = us} {r = r} ok law f h = record {
  before = flat R.spelled f.chunks ++ h.before;
  unit = h.unit;
  after = h.after;
  split = f.split ∙ ap (λ (l : List ℕ). flat R.spelled f.chunks ++ l) h.split ∙ sym (append_assoc (flat R.spelled f.chunks) h.before (h.unit ∷ h.after));
  left_is = h.left_is;
  live = then_live_second ok a f.chunks h.before f.spelt f.contents h.live;
  dead = λ g. then_dead_second ok law a f.chunks (h.before ++ h.unit ∷ []) f.spelt f.contents (not_last h.before h.unit) h.dead (rw append_assoc at g);
  none = then_none_second ok law f h.none;
}
