-- What is left of sealed fields that have begun.
use Rattle.std.proofs.Common.{◌≡◌, ◌≢◌, ℕ, ◌⊎◌, inl, inr, List, [], ◌∷◌, ◌++◌, length, drop, refl, sym, ap, ◌∙◌, subst, append_assoc}
use Rattle.std.specs.Bool.{⊤}
use Rattle.std.proofs.lemmas.List.{append-nil, append_cancel_left}
use Rattle.std.proofs.Math.Seq.{drop-append_seam}
use Rattle.asn_rules.proofs.Remaining.Carries.{carries_plain}
use Rattle.asn_rules.proofs.Live.Chunks.{FieldsPart, whole_not_begun, field_front}
use Rattle.asn_rules.proofs.Languages.Forks.{carries_left}
use Rattle.asn_rules.proofs.Sealed.Frames.{begun_frame}
use Rattle.asn_rules.proofs.Live.Lists.{Within, Beyond, cut}
use Rattle.asn_rules.proofs.Languages.Parts.{sealed_spells}
use Rattle.asn_rules.specs.Chunks.{Kind, rest_of, Chunk, sealed, flat, field_units}
use Rattle.asn_rules.specs.Forks.{Same}
use Rattle.asn_rules.specs.Frames.{IsField, Frame}
use Rattle.asn_rules.specs.Languages.{InField, Passed, IsFront, Spells, Plain, Sealed, Carries}
use Rattle.asn_rules.specs.Live.{Fielding, BeginsProperly, IsContent}

-- units that begin a list, before what is left of it
pub begun_whole : (us f : List ℕ) → BeginsProperly us f → us ++ drop (length us) f ≡ f
begun_whole us f p = ap (λ (l : List ℕ). us ++ drop (length us) l) p.2 ∙ ap (λ (l : List ℕ). us ++ l) (drop-append_seam us (p.0 ∷ p.1)) ∙ sym p.2

-- what begins a field begins a list that the field begins
front_begun : (R : Fielding) (k : Kind) (c : List ℕ) (cs : List Chunk) (us : List ℕ) → InField R k us → IsFront R (sealed k c ∷ cs) us
front_begun R k c cs [] f = tt
front_begun R k c cs (u ∷ us) f = inl f

-- what has the field whole and begins the others begins all
front_passed : (R : Fielding) (k : Kind) (c : List ℕ) (cs : List Chunk) (us : List ℕ) → Passed R k c us (IsFront R cs) → IsFront R (sealed k c ∷ cs) us
front_passed R k c cs [] p = tt
front_passed R k c cs (u ∷ us) p = inr p

-- the units and the tail are the field
tail_whole : (R : Fielding) (k : Kind) (us c : List ℕ) → IsContent R (rest_of k us) c → us ++ field_units R.spelled (rest_of k us) c ≡ field_units R.spelled k c
tail_whole R k us c f = begun_whole us (field_units R.spelled k c) f.1

-- After units that are less than a field, its tail is left.
pub carries_sealed : {A : Type 0} {R : Fielding} {k : Kind} {D : A → List ℕ → Type 0} {us : List ℕ} → FieldsPart R → InField R k us → Carries R (Sealed (rest_of k us) D) (Sealed k D) us
carries_sealed {A} {R} {k} {D} {us} ok free = record {
  reads = λ v s r h. reads v s r h;
  read = λ v s r h. read v s r h;
  lives = λ s h. record { value = h.value; chunks = sealed k h.spelt.content ∷ []; spelt = record { content = h.spelt.content; spelt = h.spelt.spelt; same = refl }; front = lives s h.spelt.content (subst (λ (c : List Chunk). IsFront R c s) h.spelt.same h.front) };
  live = λ s h. record { value = h.value; chunks = sealed (rest_of k us) h.spelt.content ∷ []; spelt = record { content = h.spelt.content; spelt = h.spelt.spelt; same = refl }; front = live s h.spelt.content (subst (λ (c : List Chunk). IsFront R c (us ++ s)) h.spelt.same h.front) };
}
  where
    -- the tail of a content whose field the units begin
    tail_is : (c w : List ℕ) → IsContent R k c → (p : BeginsProperly us (field_units R.spelled k c)) → us ++ w ≡ field_units R.spelled k c → w ≡ field_units R.spelled (rest_of k us) c
    tail_is c w f p e = append_cancel_left us w (field_units R.spelled (rest_of k us) c) (e ∙ sym (tail_whole R k us c (f, p)))

    whole_in : (s r c : List ℕ) → IsContent R k c → us ++ s ≡ field_units R.spelled k c ++ r → IsContent R (rest_of k us) c × (s ≡ field_units R.spelled (rest_of k us) c ++ r)
    whole_in s r c f e = go (cut us s (field_units R.spelled k c) r e)
      where
        go : Within us (field_units R.spelled k c) ⊎ Beyond us (field_units R.spelled k c) r s → IsContent R (rest_of k us) c × (s ≡ field_units R.spelled (rest_of k us) c ++ r)
        go (inl w) =
            let p : BeginsProperly us (field_units R.spelled k c) = (w.next, w.more, sym w.split) in
            let g : IsContent R (rest_of k us) c = (f, p) in
            let d : us ++ s ≡ us ++ (field_units R.spelled (rest_of k us) c ++ r) = e ∙ ap (λ (l : List ℕ). l ++ r) (sym (tail_whole R k us c g)) ∙ append_assoc us (field_units R.spelled (rest_of k us) c) r in
            (g, append_cancel_left us s (field_units R.spelled (rest_of k us) c ++ r) d)
        go (inr w) = absurd (whole_not_begun ok k c w.rest f (subst (λ (l : List ℕ). InField R k l) w.front free))

    reads : (v : A) (s r : List ℕ) → Spells R (Sealed (rest_of k us) D) v s r → Spells R (Sealed k D) v (us ++ s) r
    reads v s r h =
        let c = h.spelt.content in
        let f : IsContent R (rest_of k us) c × ⊤ = rw h.spelt.same at h.contents in
        let e : s ≡ field_units R.spelled (rest_of k us) c ++ r = h.split ∙ ap (λ (x : List Chunk). flat R.spelled x ++ r) h.spelt.same ∙ ap (λ (l : List ℕ). l ++ r) (append-nil (field_units R.spelled (rest_of k us) c)) in
        let g : us ++ s ≡ field_units R.spelled k c ++ r = ap (λ (l : List ℕ). us ++ l) e ∙ sym (append_assoc us (field_units R.spelled (rest_of k us) c) r) ∙ ap (λ (l : List ℕ). l ++ r) (tail_whole R k us c f.0) in
        subst (λ (l : List ℕ). Spells R (Sealed k D) v l r) (sym g) (sealed_spells R v c r h.spelt.spelt f.0.0)

    read : (v : A) (s r : List ℕ) → Spells R (Sealed k D) v (us ++ s) r → Spells R (Sealed (rest_of k us) D) v s r
    read v s r h =
        let c = h.spelt.content in
        let f : IsContent R k c × ⊤ = rw h.spelt.same at h.contents in
        let e : us ++ s ≡ field_units R.spelled k c ++ r = h.split ∙ ap (λ (x : List Chunk). flat R.spelled x ++ r) h.spelt.same ∙ ap (λ (l : List ℕ). l ++ r) (append-nil (field_units R.spelled k c)) in
        let w = whole_in s r c f.0 e in
        subst (λ (l : List ℕ). Spells R (Sealed (rest_of k us) D) v l r) (sym w.1) (sealed_spells R v c r h.spelt.spelt w.0)

    lives : (s c : List ℕ) → IsFront R (sealed (rest_of k us) c ∷ []) s → IsFront R (sealed k c ∷ []) (us ++ s)
    lives [] c h = front_begun R k c [] (us ++ []) (subst (λ (l : List ℕ). InField R k l) (sym (append-nil us)) free)
    lives (x ∷ s) c (inl f) =
        let p = f.contents in
        front_begun R k c [] (us ++ x ∷ s) (record { content = f.content; contents = p.0; next = f.next; more = f.more; split = append_assoc us (x ∷ s) (f.next ∷ f.more) ∙ ap (λ (l : List ℕ). us ++ l) f.split ∙ tail_whole R k us f.content f.contents })
    lives (x ∷ s) c (inr f) =
        let p = f.1 in
        front_passed R k c [] (us ++ x ∷ s) (f.0, p.0, ap (λ (l : List ℕ). us ++ l) f.2 ∙ sym (append_assoc us (field_units R.spelled (rest_of k us) c) f.0) ∙ ap (λ (l : List ℕ). l ++ f.0) (tail_whole R k us c f.1), f.3)

    not_nothing : (us s : List ℕ) (x : ℕ) → us ++ x ∷ s ≢ []
    not_nothing [] s x e = cc
    not_nothing (u ∷ us) s x e = cc

    live : (s c : List ℕ) → IsFront R (sealed k c ∷ []) (us ++ s) → IsFront R (sealed (rest_of k us) c ∷ []) s
    live [] c h = tt
    live (x ∷ s) c h = go (field_front R k c [] (us ++ x ∷ s) (not_nothing us s x) h)
      where
        go : InField R k (us ++ x ∷ s) ⊎ Passed R k c (us ++ x ∷ s) (IsFront R []) → InField R (rest_of k us) (x ∷ s) ⊎ Passed R (rest_of k us) c (x ∷ s) (IsFront R [])
        go (inl f) =
            let e : us ++ (x ∷ s ++ f.next ∷ f.more) ≡ field_units R.spelled k f.content = sym (append_assoc us (x ∷ s) (f.next ∷ f.more)) ∙ f.split in
            let p : BeginsProperly us (field_units R.spelled k f.content) = (x, s ++ f.next ∷ f.more, sym e) in
            inl (record { content = f.content; contents = (f.contents, p); next = f.next; more = f.more; split = tail_is f.content (x ∷ s ++ f.next ∷ f.more) f.contents p e })
        go (inr f) =
            let w = whole_in (x ∷ s) f.0 c f.1 f.2 in
            inr (f.0, w.0, w.1, f.3)

-- The same of the content, whatever is in it.
pub frame_tail : {R : Fielding} {k : Kind} {us : List ℕ} → FieldsPart R → InField R k us → Carries R (Frame R (rest_of k us)) (Frame R k) us
frame_tail {R} {k} {us} ok free = carries_left same (carries_plain us (begun_frame ok free).none)
  where
    part : (c ws : List ℕ) → IsContent R k c → us ++ ws ≡ field_units R.spelled k c → BeginsProperly us (field_units R.spelled k c)
    part c [] f e = absurd (whole_not_begun ok k c [] f (subst (λ (l : List ℕ). InField R k l) (sym (append-nil us) ∙ e ∙ sym (append-nil (field_units R.spelled k c))) free))
    part c (x ∷ ws) f e = (x, ws, sym e)

    same : Same (Frame R (rest_of k us)) (Plain (λ (c ws : List ℕ). IsField R k c (us ++ ws)))
    same = record {
      to = λ c cs h. record { units = h.units; spelt = record { contents = h.spelt.contents.0; same = ap (λ (l : List ℕ). us ++ l) h.spelt.same ∙ tail_whole R k us c h.spelt.contents }; same = h.same };
      from = λ c cs h. (let p = part c h.units h.spelt.contents h.spelt.same in
          let g : IsContent R (rest_of k us) c = (h.spelt.contents, p) in
          record { units = h.units; spelt = record { contents = g; same = append_cancel_left us h.units (field_units R.spelled (rest_of k us) c) (h.spelt.same ∙ sym (tail_whole R k us c g)) }; same = h.same });
    }
