-- What is left of a language after some units, and the answers for it.
use Rattle.std.proofs.Common.{◌≡◌, ◌≢◌, ℕ, ◌⊎◌, inl, inr, ⊎_elim, List, [], ◌∷◌, ◌++◌, refl, sym, ap, ◌∙◌, subst, append_assoc}
use Rattle.std.proofs.lemmas.List.{append-nil, append_cancel_left}
use Rattle.asn_rules.proofs.Live.Chunks.{FieldsPart, front_longer, parted_front}
use Rattle.asn_rules.proofs.Sealed.Headed.{plain_front}
use Rattle.asn_rules.proofs.Live.Lists.{Within, Beyond, cut}
use Rattle.asn_rules.proofs.Languages.Parts.{map_inhabited, map_spells, map_source, map_live, map_dead, plain_spells, plain_begins}
use Rattle.asn_rules.proofs.Languages.Then.{Follows, Both, front_over, one_front, live_nothing, live_shorter, then_spells, then_splits, then_live_first, then_live_second, then_live_cases}
use Rattle.asn_rules.specs.Chunks.{Chunk, flat, ones}
use Rattle.asn_rules.specs.Languages.{AllContents, IsFront, Spells, NoSpelling, IsLive, Short, Refused, Lawful, Then, Map, Plain, Whole, Carries}
use Rattle.asn_rules.specs.Live.{Fielding}
use Rattle.asn_rules.specs.Parted.{Parted}

-- The answers for what is left are the answers for all.
pub carries_short : {V : Type 0} {R : Fielding} {M L : V → List Chunk → Type 0} {us s : List ℕ} → Carries R M L us → Short R M s → Short R L (us ++ s)
carries_short {s = s} c h = record { live = c.lives s h.live; none = λ v r x. h.none v r (c.read v s r x) }

-- a refusal of what is left is one of all
pub carries_refused : {V : Type 0} {R : Fielding} {M L : V → List Chunk → Type 0} {us s : List ℕ} {n : ℕ} → Carries R M L us → Refused R M s n → Refused R L (us ++ s) n
carries_refused {us = us} {s = s} c h = record {
  before = us ++ h.before;
  unit = h.unit;
  after = h.after;
  split = ap (λ (l : List ℕ). us ++ l) h.split ∙ sym (append_assoc us h.before (h.unit ∷ h.after));
  left_is = h.left_is;
  live = c.lives h.before h.live;
  dead = λ x. h.dead (c.live (h.before ++ h.unit ∷ []) (rw append_assoc at x));
  none = λ v r x. h.none v r (c.read v s r x);
}

-- Nothing was taken.
pub carries_none : {V : Type 0} (R : Fielding) (L : V → List Chunk → Type 0) → Carries R L L []
carries_none R L = record { reads = λ v s r h. h; read = λ v s r h. h; lives = λ s h. h; live = λ s h. h }

-- one piece after the other.
pub carries_both : {V : Type 0} {R : Fielding} {N M L : V → List Chunk → Type 0} {us ws : List ℕ} → Carries R M L us → Carries R N M ws → Carries R N L (us ++ ws)
carries_both {R = R} {N = N} {L = L} {us = us} {ws = ws} c d = record {
  reads = λ v s r h. (let x = c.reads v (ws ++ s) r (d.reads v s r h) in subst (λ (l : List ℕ). Spells R L v l r) (sym (append_assoc us ws s)) x);
  read = λ v s r h. d.read v s r (c.read v (ws ++ s) r (subst (λ (l : List ℕ). Spells R L v l r) (append_assoc us ws s) h));
  lives = λ s h. (let x = c.lives (ws ++ s) (d.lives s h) in subst (λ (l : List ℕ). IsLive R L l) (sym (append_assoc us ws s)) x);
  live = λ s h. d.live s (c.live (ws ++ s) (subst (λ (l : List ℕ). IsLive R L l) (append_assoc us ws s) h));
}

-- what is left under a view
pub carries_map : {A B : Type 0} {R : Fielding} {f : A → B} {M L : A → List Chunk → Type 0} {us : List ℕ} → Carries R M L us → Carries R (Map f M) (Map f L) us
carries_map {R = R} {f = f} {M = M} {L = L} {us = us} c = record {
  reads = λ v s r h. (let x = map_source h in subst (λ b. Spells R (Map f L) b (us ++ s) r) (sym x.2) (map_spells (c.reads x.0 s r x.1)));
  read = λ v s r h. (let x = map_source h in subst (λ b. Spells R (Map f M) b s r) (sym x.2) (map_spells (c.read x.0 s r x.1)));
  lives = λ s h. map_live (c.lives s (map_dead h));
  live = λ s h. map_live (c.live s (map_dead h));
}

-- Inside the first of two.
pub carries_first : {A B : Type 0} {R : Fielding} {N L : A → List Chunk → Type 0} (M : A → B → List Chunk → Type 0) {us : List ℕ} → FieldsPart R → Follows L M → Follows N M → Carries R N L us → Carries R (Then N M) (Then L M) us
carries_first {A} {B} {R} {N} {L} M {us} ok f g c = record {
  reads = λ v s r h. (let x = then_splits h in then_spells (c.reads v.0 s x.rest x.earlier) x.later);
  read = λ v s r h. (let x = then_splits h in then_spells (c.read v.0 s x.rest x.earlier) x.later);
  lives = λ s h. ⊎_elim (λ x. then_live_first f (c.lives s x)) (λ x. second_live s (c.reads x.0 s x.1 x.2) x.3) (then_live_cases h);
  live = λ s h. ⊎_elim (λ x. then_live_first g (c.live s x)) (λ x. after2 (c.read x.0 s x.1 x.2) x.3) (then_live_cases h);
}
  where
    second_live : {a : A} (s : List ℕ) {r : List ℕ} → Spells R L a (us ++ s) r → IsLive R (M a) r → IsLive R (Then L M) (us ++ s)
    second_live {a} s {r} h l = rw h.split (then_live_second ok a h.chunks r h.spelt h.contents l)

    after2 : {a : A} {s r : List ℕ} → Spells R N a s r → IsLive R (M a) r → IsLive R (Then N M) s
    after2 {a} {s} {r} h l = rw h.split (then_live_second ok a h.chunks r h.spelt h.contents l)

-- nothing begins a lawful language after one of its spellings
pub live_over : {A : Type 0} {R : Fielding} {L : A → List Chunk → Type 0} → FieldsPart R → Lawful L → (a : A) (x : List Chunk) (u : ℕ) (us : List ℕ) → L a x → AllContents R x → IsLive R L (flat R.spelled x ++ u ∷ us) → ⊥
live_over {R = R} ok law a x u us l f h = go (law.law h.value a h.chunks x h.spelt l)
  where
    go : ((h.value ≡ a) × (h.chunks ≡ x)) ⊎ ((h.value ≢ a) × Parted h.chunks x) → ⊥
    go (inl p) = front_over ok x (u ∷ us) f (λ e. cc) (rw p.1 at h.front)
    go (inr p) = parted_front ok h.chunks x [] (u ∷ us) f p.1 (front_longer R h.chunks [] (flat R.spelled x ++ u ∷ us) h.front)

-- After the first of two.
pub carries_second : {A B : Type 0} {R : Fielding} {L : A → List Chunk → Type 0} (M : A → B → List Chunk → Type 0) (a : A) (x : List Chunk) → FieldsPart R → Lawful L → Follows L M → L a x → AllContents R x → Carries R (Map (λ (b : B). (a, b)) (M a)) (Then L M) (flat R.spelled x)
carries_second {A} {B} {R} {L} M a x ok law f l g = record {
  reads = λ v s r h. (let y = map_source h in subst (λ (p : A × B). Spells R (Then L M) p (flat R.spelled x ++ s) r) (sym y.2) (then_spells (mine s) y.1));
  read = λ v s r h. reading v s r (then_splits h);
  lives = λ s h. then_live_second ok a x s l g (map_dead h);
  live = living;
}
  where
    mine : (s : List ℕ) → Spells R L a (flat R.spelled x ++ s) s
    mine s = record { chunks = x; spelt = l; contents = g; split = refl }

    reading : (v : A × B) (s r : List ℕ) → Both R L M v (flat R.spelled x ++ s) r → Spells R (Map (λ (b : B). (a, b)) (M a)) v s r
    reading v s r h =
        let e = one_front ok law h.earlier (mine s) in
        let same : v ≡ (a, v.1) = λ i. (e.0 i, v.1) in
        let t : Spells R (M a) v.1 s r = subst (λ (z : A). Spells R (M z) v.1 s r) e.0 (rw e.1 at h.later) in
        subst (λ (p : A × B). Spells R (Map (λ (b : B). (a, b)) (M a)) p s r) (sym same) (map_spells t)

    living : (s : List ℕ) → IsLive R (Then L M) (flat R.spelled x ++ s) → IsLive {V = A × B} R (Map (λ (b : B). (a, b)) (M a)) s
    living [] h = live_nothing (map_inhabited (f.follow a x l))
    living (u ∷ us) h = split (then_live_cases h)
      where
        split : IsLive R L (flat R.spelled x ++ u ∷ us) ⊎ ((b : A) × (r : List ℕ) × Spells R L b (flat R.spelled x ++ u ∷ us) r × IsLive R (M b) r) → IsLive {V = A × B} R (Map (λ (b : B). (a, b)) (M a)) (u ∷ us)
        split (inl y) = absurd (live_over ok law a x u us l g y)
        split (inr y) =
            let e = one_front ok law y.2 (mine (u ∷ us)) in
            let here : IsLive R (M a) (u ∷ us) = subst (λ (z : A). IsLive R (M z) (u ∷ us)) e.0 (rw e.1 at y.3) in
            map_live here

-- The first of two is read, and the second begun.
pub carries_rest : {A B : Type 0} {R : Fielding} {L : A → List Chunk → Type 0} (M : A → B → List Chunk → Type 0) (N : B → List Chunk → Type 0) {a : A} {us r : List ℕ} → FieldsPart R → Lawful L → Follows L M → Spells R L a us r → Carries R N (M a) r → Carries R (Map (λ (b : B). (a, b)) N) (Then L M) us
carries_rest M N {a} ok law f h c = rw h.split (carries_both (carries_second M a h.chunks ok law f h.spelt h.contents) (carries_map c))

-- plain units begin more plain units
ones_front : (R : Fielding) (us t : List ℕ) → IsFront R (ones (us ++ t)) us
ones_front R [] t = tt
ones_front R (u ∷ us) t = (refl, ones_front R us t)

-- a beginning of a code is live
pub plain_live : {A : Type 0} {R : Fielding} {C : A → List ℕ → Type 0} (a : A) (us t : List ℕ) → C a (us ++ t) → IsLive R (Plain C) us
plain_live {R = R} a us t c = record { value = a; chunks = ones (us ++ t); spelt = record { units = us ++ t; spelt = c; same = refl }; front = ones_front R us t }

-- Plain units that are no whole spelling are taken.
pub carries_plain : {A : Type 0} {R : Fielding} {C : A → List ℕ → Type 0} (us : List ℕ) → NoSpelling R (Plain C) us → Carries R (Plain (λ a ws. C a (us ++ ws))) (Plain C) us
carries_plain {A} {R} {C} us never = record {
  reads = λ v s r h. (let p = plain_front h in subst (λ (l : List ℕ). Spells R (Plain C) v l r) (append_assoc us p.0 r ∙ ap (λ (l : List ℕ). us ++ l) (sym p.2)) (plain_spells R v (us ++ p.0) r p.1));
  read = λ v s r h. reading v s r (plain_front h);
  lives = λ s h. (let b = plain_begins h in let d : C b.0 ((us ++ s) ++ b.1) = rw append_assoc b.2 in plain_live b.0 (us ++ s) b.1 d);
  live = λ s h. (let b = plain_begins h in let d : C b.0 (us ++ (s ++ b.1)) = rw append_assoc at b.2 in plain_live b.0 s b.1 d);
}
  where
    reading : (v : A) (s r : List ℕ) → (w : List ℕ) × C v w × (us ++ s ≡ w ++ r) → Spells R (Plain (λ a ws. C a (us ++ ws))) v s r
    reading v s r p = go (cut us s p.0 r p.2)
      where
        go : Within us p.0 ⊎ Beyond us p.0 r s → Spells R (Plain (λ a ws. C a (us ++ ws))) v s r
        go (inl w) =
            let d : C v (us ++ w.next ∷ w.more) = rw w.split p.1 in
            let e : s ≡ (w.next ∷ w.more) ++ r = append_cancel_left us s ((w.next ∷ w.more) ++ r) (p.2 ∙ ap (λ (l : List ℕ). l ++ r) (sym w.split) ∙ append_assoc us (w.next ∷ w.more) r) in
            rw e (plain_spells R v (w.next ∷ w.more) r d)
        go (inr w) = absurd (never v w.rest (rw w.front (plain_spells R v p.0 w.rest p.1)))

-- The answers for all are those for what is left.
pub back_short : {V : Type 0} {R : Fielding} {M L : V → List Chunk → Type 0} {us s : List ℕ} → Carries R M L us → Short R L (us ++ s) → Short R M s
back_short {s = s} c h = record { live = c.live s h.live; none = λ v r x. h.none v r (c.reads v s r x) }

-- a refusal of all is one of what is left
pub back_refused : {V : Type 0} {R : Fielding} {M L : V → List Chunk → Type 0} {us s : List ℕ} {n : ℕ} → Carries R M L us → IsLive R L us → Refused R L (us ++ s) n → Refused R M s n
back_refused {V} {R} {M} {L} {us} {s} {n} c l h = go (cut us s h.before (h.unit ∷ h.after) h.split)
  where
    at : (w : List ℕ) → h.before ≡ us ++ w → s ≡ w ++ h.unit ∷ h.after → Refused R M s n
    at w e f = record {
      before = w;
      unit = h.unit;
      after = h.after;
      split = f;
      left_is = h.left_is;
      live = c.live w (rw e at h.live);
      dead = λ x. h.dead (rw (e, append_assoc) (c.lives (w ++ h.unit ∷ []) x));
      none = λ v r x. h.none v r (c.reads v s r x);
    }

    inner : (w : List ℕ) → us ≡ h.before ++ w → h.unit ∷ h.after ≡ w ++ s → Refused R M s n
    inner [] e f = at [] (sym (append-nil h.before) ∙ sym e ∙ sym (append-nil us)) (sym f)
    inner (u ∷ w) e f =
        let same : u ≡ h.unit = cc in
        let g : us ≡ (h.before ++ h.unit ∷ []) ++ w = e ∙ ap (λ (k : ℕ). h.before ++ k ∷ w) same ∙ sym (append_assoc h.before (h.unit ∷ []) w) in
        absurd (h.dead (live_shorter (h.before ++ h.unit ∷ []) w (rw g at l)))

    go : Within us h.before ⊎ Beyond us h.before (h.unit ∷ h.after) s → Refused R M s n
    go (inl w) = at (w.next ∷ w.more) (sym w.split) (append_cancel_left us s ((w.next ∷ w.more) ++ h.unit ∷ h.after) (h.split ∙ ap (λ (l : List ℕ). l ++ h.unit ∷ h.after) (sym w.split) ∙ append_assoc us (w.next ∷ w.more) (h.unit ∷ h.after)))
    go (inr w) = inner w.rest w.front w.back

-- What is left after more units is left of what is left after fewer.
pub carries_between : {V : Type 0} {R : Fielding} {N M L : V → List Chunk → Type 0} {us ws : List ℕ} → Carries R M L us → Carries R N L (us ++ ws) → Carries R N M ws
carries_between {R = R} {N = N} {L = L} {us = us} {ws = ws} c d = record {
  reads = λ v s r h. c.read v (ws ++ s) r (subst (λ (l : List ℕ). Spells R L v l r) (append_assoc us ws s) (d.reads v s r h));
  read = λ v s r h. d.read v s r (subst (λ (l : List ℕ). Spells R L v l r) (sym (append_assoc us ws s)) (c.reads v (ws ++ s) r h));
  lives = λ s h. c.live (ws ++ s) (subst (λ (l : List ℕ). IsLive R L l) (append_assoc us ws s) (d.lives s h));
  live = λ s h. d.live s (subst (λ (l : List ℕ). IsLive R L l) (sym (append_assoc us ws s)) (c.lives (ws ++ s) h));
}

-- The first of two has been read whole.
pub carries_after : {A B : Type 0} {R : Fielding} {L : A → List Chunk → Type 0} (M : A → B → List Chunk → Type 0) {a : A} {us : List ℕ} → FieldsPart R → Lawful L → Follows L M → Whole R L a us → Carries R (Map (λ (b : B). (a, b)) (M a)) (Then L M) us
carries_after {A} {B} {R} {L} M {a} {us} ok law f h =
    let e : flat R.spelled h.chunks ≡ us = sym (append-nil (flat R.spelled h.chunks)) ∙ sym h.split in
    subst (λ (l : List ℕ). Carries R (Map (λ (b : B). (a, b)) (M a)) (Then L M) l) e (carries_second M a h.chunks ok law f h.spelt h.contents)

-- What is spelt in front, by itself.
pub taken : {V : Type 0} {R : Fielding} {L : V → List Chunk → Type 0} {v : V} {us r : List ℕ} → Spells R L v us r → (t : List ℕ) × Whole R L v t × (us ≡ t ++ r)
taken {R = R} h = (flat R.spelled h.chunks, record { chunks = h.chunks; spelt = h.spelt; contents = h.contents; split = sym (append-nil (flat R.spelled h.chunks)) }, h.split)
