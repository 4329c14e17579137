-- Languages of single parts: another view of the values, nothing, plain units, sealed fields.
use Rattle.std.proofs.Common.{◌≡◌, ◌≢◌, ℕ, ◌⊎◌, inl, inr, ⊎_elim, List, [], ◌∷◌, ◌++◌, length, refl, sym, ap, ◌∙◌, subst, append_assoc}
use Rattle.std.proofs.lemmas.List.{append-nil}
use Rattle.asn_rules.proofs.Answer.Answers.{live_within, done_stays}
use Rattle.asn_rules.proofs.Live.Chunks.{FieldsPart, whole_not_begun, front_whole, field_front}
use Rattle.asn_rules.proofs.Live.Flat.{flat-ones}
use Rattle.asn_rules.proofs.Live.Lists.{Within, Beyond, cut, not_last, lists_same_or_not, last_of}
use Rattle.asn_rules.proofs.Languages.Then.{one_front}
use Rattle.asn_rules.specs.Chunks.{Kind, Chunk, sealed, flat, ones, field_units}
use Rattle.asn_rules.specs.Languages.{AllContents, InField, Passed, IsFront, Spells, NoSpelling, IsLive, Short, Refused, Lawful, Inhabited, Map, Nothing, Plain, Sealed, Whole, SomeContent}
use Rattle.asn_rules.specs.Live.{Fielding, IsContent}
use Rattle.asn_rules.specs.Parted.{Parted}

-- A proper part of a spelling is the beginning of one, with none at its front.
pub short_within : {V : Type 0} {R : Fielding} {L : V → List Chunk → Type 0} {us : List ℕ} → FieldsPart R → Lawful L → (v : V) (x : List Chunk) → L v x → AllContents R x → Within us (flat R.spelled x) → Short R L us
short_within {R = R} {L = L} {us = us} ok law v x l f w = record {
  live = live_within ok v x l f w;
  none = λ b r h.
      let whole : Spells R L v (us ++ w.next ∷ w.more) [] = record { chunks = x; spelt = l; contents = f; split = w.split ∙ sym (append-nil (flat R.spelled x)) } in
      let e = one_front ok law (done_stays (w.next ∷ w.more) h) whole in
      not_empty_after r w.next w.more e.1;
}
  where
    not_empty_after : (r : List ℕ) (u : ℕ) (us : List ℕ) → r ++ u ∷ us ≡ [] → ⊥
    not_empty_after [] u us e = cc
    not_empty_after (x ∷ r) u us e = cc

-- A unit after which no spelling can follow, after a beginning of one, is where the reader stops.
pub refused_here : {V : Type 0} {R : Fielding} {L : V → List Chunk → Type 0} → FieldsPart R → (before : List ℕ) (u : ℕ) (after : List ℕ) → Short R L before → (IsLive R L (before ++ u ∷ []) → ⊥) → Refused R L (before ++ u ∷ after) (length after)
refused_here {V} {R} {L} ok before u after s dead = record {
  before = before;
  unit = u;
  after = after;
  split = refl;
  left_is = refl;
  live = s.live;
  dead = dead;
  none = λ v r h. go v r h (cut (before ++ u ∷ []) after (flat R.spelled h.chunks) r (append_assoc before (u ∷ []) after ∙ h.split));
}
  where
    go : (v : V) (r : List ℕ) (h : Spells R L v (before ++ u ∷ after) r) → Within (before ++ u ∷ []) (flat R.spelled h.chunks) ⊎ Beyond (before ++ u ∷ []) (flat R.spelled h.chunks) r after → ⊥
    go v r h (inl w) = dead (live_within ok v h.chunks h.spelt h.contents w)
    go v r h (inr w) = last (last_of before u (flat R.spelled h.chunks) w.rest w.front)
      where
        last : (before ++ u ∷ [] ≡ flat R.spelled h.chunks) ⊎ ((q : List ℕ) × (before ≡ flat R.spelled h.chunks ++ q)) → ⊥
        last (inl e) = dead (record { value = v; chunks = h.chunks; spelt = h.spelt; front = rw e (front_whole ok h.chunks h.contents) })
        last (inr e) = s.none v e.0 (record { chunks = h.chunks; spelt = h.spelt; contents = h.contents; split = e.1 })

-- Another view of the values.
pub map_lawful : {A B : Type 0} {f : A → B} {L : A → List Chunk → Type 0} → ((a b : A) → f a ≡ f b → a ≡ b) → Lawful L → Lawful (Map f L)
map_lawful {A} {B} {f} {L} once l = record { law = λ v w x y a b. go v w x y a b (l.law a.source b.source x y a.spelt b.spelt) }
  where
    go : (v w : B) (x y : List Chunk) (a : Map f L v x) (b : Map f L w y) → ((a.source ≡ b.source) × (x ≡ y)) ⊎ ((a.source ≢ b.source) × Parted x y) → ((v ≡ w) × (x ≡ y)) ⊎ ((v ≢ w) × Parted x y)
    go v w x y a b (inl p) = inl (a.seen ∙ ap f p.0 ∙ sym b.seen, p.1)
    go v w x y a b (inr p) = inr (λ e. p.0 (once a.source b.source (sym a.seen ∙ e ∙ b.seen)), p.1)

-- some value is spelt under the view
pub map_inhabited : {A B : Type 0} {f : A → B} {L : A → List Chunk → Type 0} → Inhabited L → Inhabited (Map f L)
map_inhabited {f = f} i = record { value = f i.value; chunks = i.chunks; spelt = record { source = i.value; spelt = i.spelt; seen = refl } }

-- a front, under the view
pub map_spells : {A B : Type 0} {R : Fielding} {f : A → B} {L : A → List Chunk → Type 0} {a : A} {us r : List ℕ} → Spells R L a us r → Spells R (Map f L) (f a) us r
map_spells {a = a} h = record { chunks = h.chunks; spelt = record { source = a; spelt = h.spelt; seen = refl }; contents = h.contents; split = h.split }

-- a front under the view is one of the language
pub map_source : {A B : Type 0} {R : Fielding} {f : A → B} {L : A → List Chunk → Type 0} {b : B} {us r : List ℕ} → Spells R (Map f L) b us r → (a : A) × Spells R L a us r × (b ≡ f a)
map_source h = (h.spelt.source, record { chunks = h.chunks; spelt = h.spelt.spelt; contents = h.contents; split = h.split }, h.spelt.seen)

-- what begins a spelling begins one under the view
pub map_live : {A B : Type 0} {R : Fielding} {f : A → B} {L : A → List Chunk → Type 0} {us : List ℕ} → IsLive R L us → IsLive R (Map f L) us
map_live {f = f} h = record { value = f h.value; chunks = h.chunks; spelt = record { source = h.value; spelt = h.spelt; seen = refl }; front = h.front }

-- and the other way round
pub map_dead : {A B : Type 0} {R : Fielding} {f : A → B} {L : A → List Chunk → Type 0} {us : List ℕ} → IsLive R (Map f L) us → IsLive R L us
map_dead h = record { value = h.spelt.source; chunks = h.chunks; spelt = h.spelt.spelt; front = h.front }

-- no front, so none under the view
map_none : {A B : Type 0} {R : Fielding} {f : A → B} {L : A → List Chunk → Type 0} {us : List ℕ} → NoSpelling R L us → NoSpelling R (Map f L) us
map_none n = λ v r h. n (map_source h).0 r (map_source h).1

-- more is wanted under the view too
pub map_short : {A B : Type 0} {R : Fielding} {f : A → B} {L : A → List Chunk → Type 0} {us : List ℕ} → Short R L us → Short R (Map f L) us
map_short h = record { live = map_live h.live; none = map_none h.none }

-- refused under the view too, at the same unit
pub map_refused : {A B : Type 0} {R : Fielding} {f : A → B} {L : A → List Chunk → Type 0} {us : List ℕ} {n : ℕ} → Refused R L us n → Refused R (Map f L) us n
map_refused h = record { before = h.before; unit = h.unit; after = h.after; split = h.split; left_is = h.left_is; live = map_live h.live; dead = λ g. h.dead (map_dead g); none = map_none h.none }

-- Nothing.
pub nothing_lawful : {A : Type 0} (a : A) → Lawful (Nothing a)
nothing_lawful a = record { law = λ v w x y p q. inl (p.same ∙ sym q.same, p.empty ∙ sym q.empty) }

-- the one value is spelt
pub nothing_inhabited : {A : Type 0} (a : A) → Inhabited (Nothing a)
nothing_inhabited a = record { value = a; chunks = []; spelt = record { same = refl; empty = refl } }

-- nothing stands in front of any units
pub nothing_spells : {A : Type 0} (R : Fielding) (a : A) (us : List ℕ) → Spells R (Nothing a) a us us
nothing_spells R a us = record { chunks = []; spelt = record { same = refl; empty = refl }; contents = tt; split = refl }

-- Plain units.
pub contents-ones : (R : Fielding) (us : List ℕ) → AllContents R (ones us)
contents-ones R [] = tt
contents-ones R (u ∷ us) = contents-ones R us

-- what begins plain units is a front of them
pub front_ones : (R : Fielding) (vs us : List ℕ) → IsFront R (ones vs) us → (t : List ℕ) × (vs ≡ us ++ t)
front_ones R vs [] h = (vs, refl)
front_ones R [] (u ∷ us) h = absurd h
front_ones R (v ∷ vs) (u ∷ us) h =
    let g = front_ones R vs us h.1 in
    (g.0, let e = h.0 in let f = g.1 in cc)

-- two codes are one, of one value, or they part
pub record Code {A : Type 0} (C : A → List ℕ → Type 0) : Type 0 where
  pub law : (a b : A) (us vs : List ℕ) → C a us → C b vs → ((a ≡ b) × (us ≡ vs)) ⊎ ((a ≢ b) × Parted (ones us) (ones vs))

-- the plain spellings of a code are one or part
pub plain_lawful : {A : Type 0} {C : A → List ℕ → Type 0} → Code C → Lawful (Plain C)
plain_lawful {A} {C} code = record { law = λ v w x y p q. go v w x y p q (code.law v w p.units q.units p.spelt q.spelt) }
  where
    go : (v w : A) (x y : List Chunk) (p : Plain C v x) (q : Plain C w y) → ((v ≡ w) × (p.units ≡ q.units)) ⊎ ((v ≢ w) × Parted (ones p.units) (ones q.units)) → ((v ≡ w) × (x ≡ y)) ⊎ ((v ≢ w) × Parted x y)
    go v w x y p q (inl e) = inl (e.0, p.same ∙ ap ones e.1 ∙ sym q.same)
    go v w x y p q (inr e) = inr (e.0, rw (p.same, q.same) e.1)

-- a value with a code is spelt
pub plain_inhabited : {A : Type 0} {C : A → List ℕ → Type 0} (a : A) (us : List ℕ) → C a us → Inhabited (Plain C)
plain_inhabited a us c = record { value = a; chunks = ones us; spelt = record { units = us; spelt = c; same = refl } }

-- a code in front of units is a front
pub plain_spells : {A : Type 0} (R : Fielding) {C : A → List ℕ → Type 0} (a : A) (us r : List ℕ) → C a us → Spells R (Plain C) a (us ++ r) r
plain_spells R a us r c = record { chunks = ones us; spelt = record { units = us; spelt = c; same = refl }; contents = contents-ones R us; split = ap (λ (l : List ℕ). l ++ r) (sym (flat-ones R.spelled us)) }

-- what begins a code and is none wants more
pub plain_short : {A : Type 0} {R : Fielding} {C : A → List ℕ → Type 0} → FieldsPart R → Code C → (a : A) (us : List ℕ) (u : ℕ) (t : List ℕ) → C a (us ++ u ∷ t) → Short R (Plain C) us
plain_short {R = R} ok code a us u t c = short_within ok (plain_lawful code) a (ones (us ++ u ∷ t)) (record { units = us ++ u ∷ t; spelt = c; same = refl }) (contents-ones R (us ++ u ∷ t)) (record { next = u; more = t; split = sym (flat-ones R.spelled (us ++ u ∷ t)) })

-- what begins a plain spelling begins a code
pub plain_begins : {A : Type 0} {R : Fielding} {C : A → List ℕ → Type 0} {us : List ℕ} → IsLive R (Plain C) us → (a : A) × (t : List ℕ) × C a (us ++ t)
plain_begins {A} {R} {C} {us} h =
    let g = front_ones R h.spelt.units us (rw h.spelt.same at h.front) in
    (h.value, g.0, rw g.1 at h.spelt.spelt)

-- a unit with which nothing begins a code is refused
pub plain_refused : {A : Type 0} {R : Fielding} {C : A → List ℕ → Type 0} → FieldsPart R → (before : List ℕ) (u : ℕ) (after : List ℕ) → Short R (Plain C) before → ((a : A) (t : List ℕ) → C a (before ++ u ∷ t) → ⊥) → Refused R (Plain C) (before ++ u ∷ after) (length after)
plain_refused {C = C} ok before u after s never = refused_here ok before u after s (λ h.
    let b = plain_begins h in
    let g : C b.0 (before ++ u ∷ b.1) = rw append_assoc at b.2 in
    never b.0 b.1 g)

-- Sealed fields.
pub record Exact {A : Type 0} (C : A → List ℕ → Type 0) : Type 0 where
  pub one_value : (a b : A) (c : List ℕ) → C a c → C b c → a ≡ b
  pub one_content : (a : A) (c d : List ℕ) → C a c → C a d → c ≡ d

-- two sealed fields hold one content or part
pub sealed_lawful : {A : Type 0} {k : Kind} {C : A → List ℕ → Type 0} → Exact C → Lawful (Sealed k C)
sealed_lawful {A} {k} {C} exact = record { law = λ v w x y p q. go v w x y p q (lists_same_or_not p.content q.content) }
  where
    go : (v w : A) (x y : List Chunk) (p : Sealed k C v x) (q : Sealed k C w y) → (p.content ≡ q.content) ⊎ (p.content ≢ q.content) → ((v ≡ w) × (x ≡ y)) ⊎ ((v ≢ w) × Parted x y)
    go v w x y p q (inl e) = inl (exact.one_value v w q.content (rw e at p.spelt) q.spelt, p.same ∙ ap (λ c. sealed k c ∷ []) e ∙ sym q.same)
    go v w x y p q (inr n) = inr (λ e. n (exact.one_content w p.content q.content (subst (λ (z : A). C z p.content) e p.spelt) q.spelt), rw (p.same, q.same) (refl, inl n))

-- a field in front of units is a front
pub sealed_spells : {A : Type 0} (R : Fielding) {k : Kind} {C : A → List ℕ → Type 0} (a : A) (c r : List ℕ) → C a c → IsContent R k c → Spells R (Sealed k C) a (field_units R.spelled k c ++ r) r
sealed_spells R {k = k} a c r h f = record { chunks = sealed k c ∷ []; spelt = record { content = c; spelt = h; same = refl }; contents = (f, tt); split = ap (λ (l : List ℕ). l ++ r) (sym (append-nil (field_units R.spelled k c))) }

-- some value has a content, so some value is spelt
pub sealed_inhabited : {A : Type 0} {k : Kind} {C : A → List ℕ → Type 0} → SomeContent C → Inhabited (Sealed k C)
sealed_inhabited {k = k} i = record { value = i.value; chunks = sealed k i.content ∷ []; spelt = record { content = i.content; spelt = i.spelt; same = refl } }

-- less than a whole field is the beginning of one, whatever is in it
pub sealed_short : {A : Type 0} {R : Fielding} {k : Kind} {C : A → List ℕ → Type 0} {us : List ℕ} → FieldsPart R → SomeContent C → InField R k us → Short R (Sealed k C) us
sealed_short {A} {R} {k} {C} {us} ok i f = record {
  live = record { value = i.value; chunks = sealed k i.content ∷ []; spelt = record { content = i.content; spelt = i.spelt; same = refl }; front = begun us f };
  none = λ v r h. never v r h (rw h.spelt.same at h.split);
}
  where
    begun : (us : List ℕ) → InField R k us → IsFront R (sealed k i.content ∷ []) us
    begun [] g = tt
    begun (u ∷ us) g = inl g

    never : (v : A) (r : List ℕ) (h : Spells R (Sealed k C) v us r) → us ≡ (field_units R.spelled k h.spelt.content ++ []) ++ r → ⊥
    never v r h e = whole_not_begun ok k h.spelt.content r (rw h.spelt.same at h.contents).0 (let g : us ≡ field_units R.spelled k h.spelt.content ++ r = e ∙ ap (λ (l : List ℕ). l ++ r) (append-nil (field_units R.spelled k h.spelt.content)) in rw g at f)

-- what begins a sealed field is less than one, or has a whole one, within its limit and of the inner language
pub sealed_begins : {A : Type 0} {R : Fielding} {k : Kind} {C : A → List ℕ → Type 0} {us : List ℕ} → IsLive R (Sealed k C) us → us ≢ [] → InField R k us ⊎ ((a : A) × (c : List ℕ) × C a c × IsContent R k c × (us ≡ field_units R.spelled k c))
sealed_begins {A} {R} {k} {C} {us} h full = go (field_front R k h.spelt.content [] us full (rw h.spelt.same at h.front))
  where
    go : InField R k us ⊎ Passed R k h.spelt.content us (IsFront R []) → InField R k us ⊎ ((a : A) × (c : List ℕ) × C a c × IsContent R k c × (us ≡ field_units R.spelled k c))
    go (inl f) = inl f
    go (inr p) = inr (h.value, h.spelt.content, h.spelt.spelt, p.1, whole p.0 p.2 p.3)
      where
        whole : (r : List ℕ) → us ≡ field_units R.spelled k h.spelt.content ++ r → IsFront R [] r → us ≡ field_units R.spelled k h.spelt.content
        whole [] e f = e ∙ append-nil (field_units R.spelled k h.spelt.content)
        whole (u ∷ r) e f = absurd f

-- a length that is not well spelt is refused within the length
pub sealed_refused_length : {A : Type 0} {R : Fielding} {k : Kind} {C : A → List ℕ → Type 0} → FieldsPart R → SomeContent C → (before : List ℕ) (u : ℕ) (after : List ℕ) → InField R k before → (InField R k (before ++ u ∷ []) → ⊥) → ((c : List ℕ) → IsContent R k c → before ++ u ∷ [] ≡ field_units R.spelled k c → ⊥) → Refused R (Sealed k C) (before ++ u ∷ after) (length after)
sealed_refused_length ok i before u after f never none = refused_here ok before u after (sealed_short ok i f) (λ h. ⊎_elim never (λ p. none p.1 p.3 p.4) (sealed_begins h (not_last before u)))

-- a content that is no encoding is refused at the last unit of its field
pub sealed_refused_content : {A : Type 0} {R : Fielding} {k : Kind} {C : A → List ℕ → Type 0} → FieldsPart R → SomeContent C → (c : List ℕ) (before : List ℕ) (u : ℕ) (after : List ℕ) → IsContent R k c → before ++ u ∷ [] ≡ field_units R.spelled k c → ((a : A) → C a c → ⊥) → Refused R (Sealed k C) (before ++ u ∷ after) (length after)
sealed_refused_content {A} {R} {k} {C} ok i c before u after f e never =
    refused_here ok before u after (sealed_short ok i (record { content = c; contents = f; next = u; more = []; split = e })) (λ h. ⊎_elim less whole (sealed_begins h (not_last before u)))
  where
    less : InField R k (before ++ u ∷ []) → ⊥
    less g = whole_not_begun ok k c [] f (let d : before ++ u ∷ [] ≡ field_units R.spelled k c ++ [] = e ∙ sym (append-nil (field_units R.spelled k c)) in rw d at g)

    whole : (a : A) × (d : List ℕ) × C a d × IsContent R k d × (before ++ u ∷ [] ≡ field_units R.spelled k d) → ⊥
    whole p = never p.0 (let g : p.1 ≡ c = ok.tells k p.1 c [] [] p.3 f (ap (λ (l : List ℕ). l ++ []) (sym p.4 ∙ e)) in rw g at p.2)

-- A whole encoding of a lawful language is one of one value, and a value has one.
pub whole_exact : {A : Type 0} {R : Fielding} {L : A → List Chunk → Type 0} → FieldsPart R → Lawful L → Exact (Whole R L)
whole_exact {A} {R} {L} ok law = record {
  one_value = λ a b c p q. (one_front ok law p q).0;
  one_content = λ a c d p q. content a c d p q (law.law a a p.chunks q.chunks p.spelt q.spelt);
}
  where
    content : (a : A) (c d : List ℕ) (p : Whole R L a c) (q : Whole R L a d) → ((a ≡ a) × (p.chunks ≡ q.chunks)) ⊎ ((a ≢ a) × Parted p.chunks q.chunks) → c ≡ d
    content a c d p q (inl e) = p.split ∙ ap (λ x. flat R.spelled x ++ []) e.1 ∙ sym q.split
    content a c d p q (inr e) = absurd (e.0 refl)
