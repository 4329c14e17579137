-- Languages that are one of two, told by a unit in front, and languages that are the same.
use Rattle.std.proofs.Common.{◌≡◌, ◌≢◌, ℕ, ◌⊎◌, inl, inr, List, [], ◌∷◌, ◌++◌, length, refl, sym, ap, ◌∙◌, subst, arith}
use Rattle.asn_rules.proofs.Live.Chunks.{FieldsPart}
use Rattle.asn_rules.proofs.Languages.Parts.{refused_here}
use Rattle.asn_rules.specs.Chunks.{Chunk, one, flat}
use Rattle.asn_rules.specs.Forks.{Branch, Fork, Same}
use Rattle.asn_rules.specs.Languages.{AllContents, IsFront, Spells, IsLive, Short, Refused, Lawful, Inhabited, Map, Carries}
use Rattle.asn_rules.specs.Live.{Fielding}
use Rattle.asn_rules.specs.Parted.{Parted}

-- Another view of the values, that tells those apart that have spellings.
pub map_lawful_on : {A B : Type 0} {f : A → B} {L : A → List Chunk → Type 0} → ((a b : A) (x y : List Chunk) → L a x → L b y → f a ≡ f b → a ≡ b) → Lawful L → Lawful (Map f L)
map_lawful_on {A} {B} {f} {L} once l = record { law = λ v w x y a b. go v w x y a b (l.law a.source b.source x y a.spelt b.spelt) }
  where
    go : (v w : B) (x y : List Chunk) (a : Map f L v x) (b : Map f L w y) → ((a.source ≡ b.source) × (x ≡ y)) ⊎ ((a.source ≢ b.source) × Parted x y) → ((v ≡ w) × (x ≡ y)) ⊎ ((v ≢ w) × Parted x y)
    go v w x y a b (inl p) = inl (a.seen ∙ ap f p.0 ∙ sym b.seen, p.1)
    go v w x y a b (inr p) = inr (λ e. p.0 (once a.source b.source x y a.spelt b.spelt (sym a.seen ∙ e ∙ b.seen)), p.1)

-- The same spellings, the same answers.
pub same_flip : {V : Type 0} {L M : V → List Chunk → Type 0} → Same L M → Same M L
same_flip e = record { to = e.from; from = e.to }

-- a front, under the other
pub same_spells : {V : Type 0} {R : Fielding} {L M : V → List Chunk → Type 0} {v : V} {us r : List ℕ} → Same L M → Spells R L v us r → Spells R M v us r
same_spells {v = v} e h = record { chunks = h.chunks; spelt = e.to v h.chunks h.spelt; contents = h.contents; split = h.split }

-- what begins a spelling, under the other
pub same_live : {V : Type 0} {R : Fielding} {L M : V → List Chunk → Type 0} {us : List ℕ} → Same L M → IsLive R L us → IsLive R M us
same_live e h = record { value = h.value; chunks = h.chunks; spelt = e.to h.value h.chunks h.spelt; front = h.front }

-- after no units one is left of the other
pub same_carries : {V : Type 0} {L M : V → List Chunk → Type 0} (R : Fielding) → Same L M → Carries R L M []
same_carries R e = record {
  reads = λ v s r h. same_spells e h;
  read = λ v s r h. same_spells (same_flip e) h;
  lives = λ s h. same_live e h;
  live = λ s h. same_live (same_flip e) h;
}

-- more is wanted under the other
pub same_short : {V : Type 0} {R : Fielding} {L M : V → List Chunk → Type 0} {us : List ℕ} → Same L M → Short R L us → Short R M us
same_short e h = record { live = same_live e h.live; none = λ v r x. h.none v r (same_spells (same_flip e) x) }

-- refused under the other, at the same unit
pub same_refused : {V : Type 0} {R : Fielding} {L M : V → List Chunk → Type 0} {us : List ℕ} {n : ℕ} → Same L M → Refused R L us n → Refused R M us n
same_refused e h = record {
  before = h.before;
  unit = h.unit;
  after = h.after;
  split = h.split;
  left_is = h.left_is;
  live = same_live e h.live;
  dead = λ g. h.dead (same_live (same_flip e) g);
  none = λ v r x. h.none v r (same_spells (same_flip e) x);
}

-- laws carry over
pub same_lawful : {V : Type 0} {L M : V → List Chunk → Type 0} → Same L M → Lawful L → Lawful M
same_lawful e l = record { law = λ v w x y p q. l.law v w x y (e.from v x p) (e.from w y q) }

-- a value that is spelt, under the other
pub same_inhabited : {V : Type 0} {L M : V → List Chunk → Type 0} → Same L M → Inhabited L → Inhabited M
same_inhabited e i = record { value = i.value; chunks = i.chunks; spelt = e.to i.value i.chunks i.spelt }

-- A fork.
pub fork_lawful : {A B : Type 0} {X : A → List Chunk → Type 0} {Y : B → List Chunk → Type 0} → Lawful X → Lawful Y → Lawful (Fork X Y)
fork_lawful {A} {B} {X} {Y} f g = record { law = λ v w x y p q. go v w x y p.side q.side }
  where
    go : (v w : A ⊎ B) (x y : List Chunk) → Branch 0 inl X v x ⊎ Branch 1 inr Y v x → Branch 0 inl X w y ⊎ Branch 1 inr Y w y → ((v ≡ w) × (x ≡ y)) ⊎ ((v ≢ w) × Parted x y)
    go v w x y (inl p) (inl q) = zero v w x y p q (f.law p.value q.value p.rest q.rest p.spelt q.spelt)
      where
        zero : (v w : A ⊎ B) (x y : List Chunk) (p : Branch 0 inl X v x) (q : Branch 0 inl X w y) → ((p.value ≡ q.value) × (p.rest ≡ q.rest)) ⊎ ((p.value ≢ q.value) × Parted p.rest q.rest) → ((v ≡ w) × (x ≡ y)) ⊎ ((v ≢ w) × Parted x y)
        zero v w x y p q (inl e) = inl (p.seen ∙ ap inl e.0 ∙ sym q.seen, p.same ∙ ap (λ (c : List Chunk). one 0 ∷ c) e.1 ∙ sym q.same)
        zero v w x y p q (inr e) = inr (λ s. e.0 (let d = p.seen in let c = q.seen in cc), rw (p.same, q.same) (inr (refl, e.1)))
    go v w x y (inr p) (inr q) = second v w x y p q (g.law p.value q.value p.rest q.rest p.spelt q.spelt)
      where
        second : (v w : A ⊎ B) (x y : List Chunk) (p : Branch 1 inr Y v x) (q : Branch 1 inr Y w y) → ((p.value ≡ q.value) × (p.rest ≡ q.rest)) ⊎ ((p.value ≢ q.value) × Parted p.rest q.rest) → ((v ≡ w) × (x ≡ y)) ⊎ ((v ≢ w) × Parted x y)
        second v w x y p q (inl e) = inl (p.seen ∙ ap inr e.0 ∙ sym q.seen, p.same ∙ ap (λ (c : List Chunk). one 1 ∷ c) e.1 ∙ sym q.same)
        second v w x y p q (inr e) = inr (λ s. e.0 (let d = p.seen in let c = q.seen in cc), rw (p.same, q.same) (inr (refl, e.1)))
    go v w x y (inl p) (inr q) = inr (λ s. (let d = p.seen in let c = q.seen in cc), rw (p.same, q.same) (inl (λ e. omega arith)))
    go v w x y (inr p) (inl q) = inr (λ s. (let d = p.seen in let c = q.seen in cc), rw (p.same, q.same) (inl (λ e. omega arith)))

-- some value of the first is spelt
pub fork_inhabited_zero : {A B : Type 0} {X : A → List Chunk → Type 0} {Y : B → List Chunk → Type 0} → Inhabited X → Inhabited (Fork X Y)
fork_inhabited_zero i = record { value = inl i.value; chunks = one 0 ∷ i.chunks; spelt = record { side = inl (record { value = i.value; rest = i.chunks; spelt = i.spelt; seen = refl; same = refl }) } }

-- some value of the second is spelt
pub fork_inhabited_one : {A B : Type 0} {X : A → List Chunk → Type 0} {Y : B → List Chunk → Type 0} → Inhabited Y → Inhabited (Fork X Y)
fork_inhabited_one i = record { value = inr i.value; chunks = one 1 ∷ i.chunks; spelt = record { side = inr (record { value = i.value; rest = i.chunks; spelt = i.spelt; seen = refl; same = refl }) } }

-- what begins after a branch's unit begins the branch
branch_spells : {A V : Type 0} {R : Fielding} {f : A → V} {L : A → List Chunk → Type 0} {u x : ℕ} {v : V} {us r : List ℕ} {ds : List Chunk} → (b : Branch u f L v ds) → AllContents R ds → x ∷ us ≡ flat R.spelled ds ++ r → (u ≡ x) × Spells R (Map f L) v us r
branch_spells {R = R} {r = r} b g e =
    let d = e ∙ ap (λ c. flat R.spelled c ++ r) b.same in
    (cc, record { chunks = b.rest; spelt = record { source = b.value; spelt = b.spelt; seen = b.seen }; contents = rw b.same at g; split = cc })

-- and what begins a spelling there
branch_live : {A V : Type 0} {R : Fielding} {f : A → V} {L : A → List Chunk → Type 0} {u x : ℕ} {v : V} {us : List ℕ} {ds : List Chunk} → (b : Branch u f L v ds) → IsFront R ds (x ∷ us) → (u ≡ x) × IsLive R (Map f L) us
branch_live {R = R} {x = x} {v = v} {us = us} b h =
    let g : IsFront R (one _ ∷ b.rest) (x ∷ us) = rw b.same at h in
    (g.0, record { value = v; chunks = b.rest; spelt = record { source = b.value; spelt = b.spelt; seen = b.seen }; front = g.1 })

-- After a 0, what is left is the first language, and after a 1 the second.
pub fork_zero : {A B : Type 0} {X : A → List Chunk → Type 0} {Y : B → List Chunk → Type 0} (R : Fielding) → Carries R (Map inl X) (Fork X Y) (0 ∷ [])
fork_zero {A} {B} {X} {Y} R = record {
  reads = λ v s r h. record { chunks = one 0 ∷ h.chunks; spelt = record { side = inl (record { value = h.spelt.source; rest = h.chunks; spelt = h.spelt.spelt; seen = h.spelt.seen; same = refl }) }; contents = h.contents; split = ap (λ (l : List ℕ). 0 ∷ l) h.split };
  read = λ v s r h. read v s r h h.spelt.side;
  lives = λ s h. record { value = h.value; chunks = one 0 ∷ h.chunks; spelt = record { side = inl (record { value = h.spelt.source; rest = h.chunks; spelt = h.spelt.spelt; seen = h.spelt.seen; same = refl }) }; front = (refl, h.front) };
  live = λ s h. live s h h.spelt.side;
}
  where
    read : (v : A ⊎ B) (s r : List ℕ) (h : Spells R (Fork X Y) v (0 ∷ s) r) → Branch 0 inl X v h.chunks ⊎ Branch 1 inr Y v h.chunks → Spells {V = A ⊎ B} R (Map inl X) v s r
    read v s r h (inl b) = (branch_spells {R = R} b h.contents h.split).1
    read v s r h (inr b) = (let e = (branch_spells {R = R} b h.contents h.split).0 in absurd (omega arith))

    live : (s : List ℕ) (h : IsLive R (Fork X Y) (0 ∷ s)) → Branch 0 inl X h.value h.chunks ⊎ Branch 1 inr Y h.value h.chunks → IsLive {V = A ⊎ B} R (Map inl X) s
    live s h (inl b) = (branch_live {R = R} b h.front).1
    live s h (inr b) = (let e = (branch_live {R = R} b h.front).0 in absurd (omega arith))

-- after a 1 the second language is left
pub fork_one : {A B : Type 0} {X : A → List Chunk → Type 0} {Y : B → List Chunk → Type 0} (R : Fielding) → Carries R (Map inr Y) (Fork X Y) (1 ∷ [])
fork_one {A} {B} {X} {Y} R = record {
  reads = λ v s r h. record { chunks = one 1 ∷ h.chunks; spelt = record { side = inr (record { value = h.spelt.source; rest = h.chunks; spelt = h.spelt.spelt; seen = h.spelt.seen; same = refl }) }; contents = h.contents; split = ap (λ (l : List ℕ). 1 ∷ l) h.split };
  read = λ v s r h. read v s r h h.spelt.side;
  lives = λ s h. record { value = h.value; chunks = one 1 ∷ h.chunks; spelt = record { side = inr (record { value = h.spelt.source; rest = h.chunks; spelt = h.spelt.spelt; seen = h.spelt.seen; same = refl }) }; front = (refl, h.front) };
  live = λ s h. live s h h.spelt.side;
}
  where
    read : (v : A ⊎ B) (s r : List ℕ) (h : Spells R (Fork X Y) v (1 ∷ s) r) → Branch 0 inl X v h.chunks ⊎ Branch 1 inr Y v h.chunks → Spells {V = A ⊎ B} R (Map inr Y) v s r
    read v s r h (inl b) = (let e = (branch_spells {R = R} b h.contents h.split).0 in absurd (omega arith))
    read v s r h (inr b) = (branch_spells {R = R} b h.contents h.split).1

    live : (s : List ℕ) (h : IsLive R (Fork X Y) (1 ∷ s)) → Branch 0 inl X h.value h.chunks ⊎ Branch 1 inr Y h.value h.chunks → IsLive {V = A ⊎ B} R (Map inr Y) s
    live s h (inl b) = (let e = (branch_live {R = R} b h.front).0 in absurd (omega arith))
    live s h (inr b) = (branch_live {R = R} b h.front).1

-- No units have been read.
pub fork_short : {A B : Type 0} {R : Fielding} {X : A → List Chunk → Type 0} {Y : B → List Chunk → Type 0} → Inhabited (Fork X Y) → Short R (Fork X Y) []
fork_short {A} {B} {R} {X} {Y} i = record {
  live = record { value = i.value; chunks = i.chunks; spelt = i.spelt; front = tt };
  none = λ v r h. none v r h h.spelt.side;
}
  where
    never : {C : Type 0} {u : ℕ} {f : C → A ⊎ B} {L : C → List Chunk → Type 0} {v : A ⊎ B} {cs : List Chunk} (r : List ℕ) → (b : Branch u f L v cs) → [] ≡ flat R.spelled cs ++ r → ⊥
    never r b e =
        let d = e ∙ ap (λ c. flat R.spelled c ++ r) b.same in
        cc

    none : (v : A ⊎ B) (r : List ℕ) (h : Spells R (Fork X Y) v [] r) → Branch 0 inl X v h.chunks ⊎ Branch 1 inr Y v h.chunks → ⊥
    none v r h (inl b) = never r b h.split
    none v r h (inr b) = never r b h.split

-- A unit that is neither bit, or the bit of a language without spellings.
pub fork_refused : {A B : Type 0} {R : Fielding} {X : A → List Chunk → Type 0} {Y : B → List Chunk → Type 0} → FieldsPart R → Inhabited (Fork X Y) → (u : ℕ) (us : List ℕ) → (u ≡ 0 → Inhabited X → ⊥) → (u ≡ 1 → Inhabited Y → ⊥) → Refused R (Fork X Y) (u ∷ us) (length us)
fork_refused {A} {B} {R} {X} {Y} ok i u us f g = refused_here ok [] u us (fork_short i) (λ h. dead h h.spelt.side)
  where
    dead : (h : IsLive R (Fork X Y) (u ∷ [])) → Branch 0 inl X h.value h.chunks ⊎ Branch 1 inr Y h.value h.chunks → ⊥
    dead h (inl b) = f (sym (branch_live {R = R} b h.front).0) (record { value = b.value; chunks = b.rest; spelt = b.spelt })
    dead h (inr b) = g (sym (branch_live {R = R} b h.front).0) (record { value = b.value; chunks = b.rest; spelt = b.spelt })

-- A view of a view.
pub map_map : {A B C : Type 0} {f : A → B} {g : B → C} {h : A → C} {L : A → List Chunk → Type 0} → ((a : A) → g (f a) ≡ h a) → Same (Map g (Map f L)) (Map h L)
map_map {f = f} {g = g} e = record {
  to = λ v cs m. record { source = m.spelt.source; spelt = m.spelt.spelt; seen = m.seen ∙ ap g m.spelt.seen ∙ e m.spelt.source };
  from = λ v cs m. record { source = f m.source; spelt = record { source = m.source; spelt = m.spelt; seen = refl }; seen = m.seen ∙ sym (e m.source) };
}

-- A language in place of one of the same spellings, as what is left and as the whole.
pub carries_left : {V : Type 0} {R : Fielding} {N M L : V → List Chunk → Type 0} {us : List ℕ} → Same N M → Carries R M L us → Carries R N L us
carries_left e c = record {
  reads = λ v s r h. c.reads v s r (same_spells e h);
  read = λ v s r h. same_spells (same_flip e) (c.read v s r h);
  lives = λ s h. c.lives s (same_live e h);
  live = λ s h. same_live (same_flip e) (c.live s h);
}

-- and in place of the whole
pub carries_whole : {V : Type 0} {R : Fielding} {M K L : V → List Chunk → Type 0} {us : List ℕ} → Same K L → Carries R M K us → Carries R M L us
carries_whole e c = record {
  reads = λ v s r h. same_spells e (c.reads v s r h);
  read = λ v s r h. c.read v s r (same_spells (same_flip e) h);
  lives = λ s h. same_live e (c.lives s h);
  live = λ s h. c.live s (same_live (same_flip e) h);
}

-- a view that changes nothing
pub map_same : {A : Type 0} {f : A → A} {L : A → List Chunk → Type 0} → ((a : A) → f a ≡ a) → Same L (Map f L)
map_same {A} {f} {L} e = record {
  to = λ v cs m. record { source = v; spelt = m; seen = sym (e v) };
  from = λ v cs m. (let d : m.source ≡ v = sym (e m.source) ∙ sym m.seen in subst (λ (x : A). L x cs) d m.spelt);
}
