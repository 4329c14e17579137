-- Sealed fields that are a length and the content.
use Rattle.std.proofs.Common.{◌≡◌, ◌≢◌, ℕ, suc, ◌+◌, ◌-◌, ◌<◌, ◌⊎◌, inl, inr, ⊎_elim, List, [], ◌∷◌, ◌++◌, length, length-append, refl, sym, ap, ◌∙◌, append_assoc, arith}
use Rattle.std.specs.Prelude.{replicate}
use Rattle.std.proofs.lemmas.List.{append-nil, append_cancel_left, length-replicate}
use Rattle.asn_rules.proofs.Answer.Answers.{live_within}
use Rattle.asn_rules.proofs.Live.Chunks.{FieldsPart}
use Rattle.asn_rules.proofs.Live.Flat.{flat-ones}
use Rattle.asn_rules.proofs.Live.Lists.{cut, last_unit, same_fronts}
use Rattle.asn_rules.proofs.Languages.Parts.{Code, contents-ones, plain_spells, plain_begins, sealed_spells, sealed_short, sealed_refused_length, sealed_refused_content}
use Rattle.asn_rules.specs.Chunks.{Kind, flat, ones, field_units}
use Rattle.asn_rules.specs.Languages.{InField, Spells, IsLive, Short, Refused, Plain, Sealed, SomeContent}
use Rattle.asn_rules.specs.Live.{Fielding, IsContent}
use Rattle.asn_rules.specs.Parted.{Parted}

-- a length that may stand there, and its units
pub record Head (R : Fielding) (k : Kind) (C : ℕ → List ℕ → Type 0) (c : List ℕ) : Type 0 where
  pub units : List ℕ
  pub spelt : C (length c) units
  pub same : field_units R.spelled k c ≡ units ++ c

pub record Headed (R : Fielding) (k : Kind) (C : ℕ → List ℕ → Type 0) : Type 0 where
  pub head : (c : List ℕ) → IsContent R k c → Head R k C c
  pub every : (c h : List ℕ) → C (length c) h → IsContent R k c × (field_units R.spelled k c ≡ h ++ c)

-- what spells a length in front of the units
pub plain_front : {A : Type 0} {R : Fielding} {C : A → List ℕ → Type 0} {a : A} {us r : List ℕ} → Spells R (Plain C) a us r → (h : List ℕ) × C a h × (us ≡ h ++ r)
plain_front {R = R} {r = r} s = (s.spelt.units, s.spelt.spelt, s.split ∙ ap (λ c. flat R.spelled c ++ r) s.spelt.same ∙ ap (λ (l : List ℕ). l ++ r) (flat-ones R.spelled s.spelt.units))

-- within the length
begun_in_length : {R : Fielding} {k : Kind} {C : ℕ → List ℕ → Type 0} {us : List ℕ} → Headed R k C → IsLive R (Plain C) us → ((n : ℕ) → C n us → ⊥) → InField R k us
begun_in_length {R} {k} {C} {us} w live never = go (plain_begins live).0 (plain_begins live).1 (plain_begins live).2
  where
    go : (n : ℕ) (t : List ℕ) → C n (us ++ t) → InField R k us
    go n [] c = absurd (never n (rw append-nil at c))
    go n (u ∷ t) c =
        let e = length-replicate {A = ℕ} n 0 in
        let d : C (length (replicate n 0)) (us ++ u ∷ t) = rw e c in
        let f = w.every (replicate n 0) (us ++ u ∷ t) d in
        record { content = replicate n 0; contents = f.0; next = u; more = t ++ replicate n 0; split = sym (f.1 ∙ append_assoc us (u ∷ t) (replicate n 0)) }

-- the length is not over
pub headed_short_length : {A : Type 0} {R : Fielding} {k : Kind} {C : ℕ → List ℕ → Type 0} {D : A → List ℕ → Type 0} {us : List ℕ} → FieldsPart R → Headed R k C → SomeContent D → Short R (Plain C) us → Short R (Sealed k D) us
headed_short_length {R = R} {C = C} {us = us} ok w i s = sealed_short ok i (begun_in_length w s.live (λ n c. s.none n [] (let p = plain_spells R {C = C} n us [] c in rw append-nil at p)))

-- within the content
pub headed_short_content : {A : Type 0} {R : Fielding} {k : Kind} {C : ℕ → List ℕ → Type 0} {D : A → List ℕ → Type 0} {us r : List ℕ} {n : ℕ} → FieldsPart R → Headed R k C → SomeContent D → Spells R (Plain C) n us r → length r < n → Short R (Sealed k D) us
headed_short_content {A} {R} {k} {C} {D} {us} {r} {n} ok w i s l = sealed_short ok i (free (n - suc (length r)) (omega arith))
  where
    free : (m : ℕ) → length r + suc m ≡ n → InField R k us
    free m e =
        let p = plain_front s in
        let q : length (r ++ replicate (suc m) 0) ≡ n = length-append r (replicate (suc m) 0) ∙ ap (λ (x : ℕ). length r + x) (length-replicate {A = ℕ} (suc m) 0) ∙ e in
        let d : C (length (r ++ replicate (suc m) 0)) p.0 = rw q p.1 in
        let f = w.every (r ++ replicate (suc m) 0) p.0 d in
        record { content = r ++ replicate (suc m) 0; contents = f.0; next = 0; more = replicate m 0; split = ap (λ (x : List ℕ). x ++ 0 ∷ replicate m 0) p.2 ∙ append_assoc p.0 r (0 ∷ replicate m 0) ∙ sym f.1 }

-- the length is not well spelt
pub headed_refused_length : {A : Type 0} {R : Fielding} {k : Kind} {C : ℕ → List ℕ → Type 0} {D : A → List ℕ → Type 0} {us : List ℕ} {n : ℕ} → FieldsPart R → Headed R k C → SomeContent D → Refused R (Plain C) us n → Refused R (Sealed k D) us n
headed_refused_length {A} {R} {k} {C} {D} {us} {n} ok w i s = rw s.split (rw (← s.left_is) (sealed_refused_length ok i s.before s.unit s.after free less whole))
  where
    front : (m : ℕ) (h r : List ℕ) → C m h → us ≡ h ++ r → ⊥
    front m h r c e = s.none m r (rw e (plain_spells R m h r c))

    free : InField R k s.before
    free = begun_in_length w s.live (λ m c. front m s.before (s.unit ∷ s.after) c s.split)

    over : (c t : List ℕ) → IsContent R k c → (s.before ++ s.unit ∷ []) ++ t ≡ field_units R.spelled k c → ⊥
    over c t f e =
        let h = w.head c f in
        ⊎_elim
        (λ p. s.dead (live_within ok (length c) (ones h.units) (record { units = h.units; spelt = h.spelt; same = refl }) (contents-ones R h.units) (record { next = p.next; more = p.more; split = p.split ∙ sym (flat-ones R.spelled h.units) })))
        (λ p. front (length c) h.units (p.rest ++ s.after) h.spelt (s.split ∙ sym (append_assoc s.before (s.unit ∷ []) s.after) ∙ ap (λ (l : List ℕ). l ++ s.after) p.front ∙ append_assoc h.units p.rest s.after))
        (cut (s.before ++ s.unit ∷ []) t h.units c (e ∙ h.same))

    less : InField R k (s.before ++ s.unit ∷ []) → ⊥
    less f = over f.content (f.next ∷ f.more) f.contents f.split

    whole : (c : List ℕ) → IsContent R k c → s.before ++ s.unit ∷ [] ≡ field_units R.spelled k c → ⊥
    whole c f e = over c [] f (append-nil (s.before ++ s.unit ∷ []) ∙ e)

-- the content has been read
pub headed_spells : {A : Type 0} {R : Fielding} {k : Kind} {C : ℕ → List ℕ → Type 0} {D : A → List ℕ → Type 0} {us r : List ℕ} {n : ℕ} {a : A} (c s : List ℕ) → Headed R k C → Spells R (Plain C) n us r → r ≡ c ++ s → length c ≡ n → D a c → Spells R (Sealed k D) a us s
headed_spells {R = R} {k = k} {C = C} {us = us} {a = a} c s w h e l d =
    let p = plain_front h in
    let f = w.every c p.0 (rw l p.1) in
    let g : us ≡ field_units R.spelled k c ++ s = p.2 ∙ ap (λ (x : List ℕ). p.0 ++ x) e ∙ sym (append_assoc p.0 c s) ∙ ap (λ (x : List ℕ). x ++ s) (sym f.1) in
    rw g (sealed_spells R a c s d f.0)

-- the field has been read, and its content is none: refused at its last unit
pub headed_refused_content : {A : Type 0} {R : Fielding} {k : Kind} {C : ℕ → List ℕ → Type 0} {D : A → List ℕ → Type 0} {us r : List ℕ} {n : ℕ} (c s : List ℕ) → FieldsPart R → Headed R k C → SomeContent D → Spells R (Plain C) n us r → r ≡ c ++ s → length c ≡ n → ((a : A) → D a c → ⊥) → Refused R (Sealed k D) us (length s)
headed_refused_content {A} {R} {k} {C} {D} {us} {r} {n} c s ok w i h e l never =
    let p = plain_front h in
    let f = w.every c p.0 (rw l p.1) in
    let g : us ≡ field_units R.spelled k c ++ s = p.2 ∙ ap (λ (x : List ℕ). p.0 ++ x) e ∙ sym (append_assoc p.0 c s) ∙ ap (λ (x : List ℕ). x ++ s) (sym f.1) in
    go f.0 g (last_unit (field_units R.spelled k c) (ok.some_units k c f.0))
  where
    go : IsContent R k c → us ≡ field_units R.spelled k c ++ s → (b : List ℕ) × (u : ℕ) × (b ++ u ∷ [] ≡ field_units R.spelled k c) → Refused R (Sealed k D) us (length s)
    go f g q =
        let d : us ≡ q.0 ++ q.1 ∷ s = g ∙ ap (λ (x : List ℕ). x ++ s) (sym q.2) ∙ append_assoc q.0 (q.1 ∷ []) s in
        rw d (sealed_refused_content ok i c q.0 q.1 s f q.2 never)

-- parted units are not one, whatever follows
parted_ones : (xs ys s t : List ℕ) → Parted (ones xs) (ones ys) → xs ++ s ≡ ys ++ t → ⊥
parted_ones [] ys s t p e = absurd p
parted_ones (x ∷ xs) [] s t p e = absurd p
parted_ones (x ∷ xs) (y ∷ ys) s t (inl p) e = p cc
parted_ones (x ∷ xs) (y ∷ ys) s t (inr p) e = parted_ones xs ys s t p.1 cc

-- where lengths are a code, no field begins another
pub headed_one : {R : Fielding} {k : Kind} {C : ℕ → List ℕ → Type 0} → Code C → (c d s t : List ℕ) → Head R k C c → Head R k C d → field_units R.spelled k c ++ s ≡ field_units R.spelled k d ++ t → c ≡ d
headed_one {R} {k} {C} code c d s t g h e = go (code.law (length c) (length d) g.units h.units g.spelt h.spelt)
  where
    w : g.units ++ (c ++ s) ≡ h.units ++ (d ++ t)
    w = sym (append_assoc g.units c s) ∙ ap (λ (l : List ℕ). l ++ s) (sym g.same) ∙ e ∙ ap (λ (l : List ℕ). l ++ t) h.same ∙ append_assoc h.units d t

    go : ((length c ≡ length d) × (g.units ≡ h.units)) ⊎ ((length c ≢ length d) × Parted (ones g.units) (ones h.units)) → c ≡ d
    go (inl p) = same_fronts c d s t p.0 (append_cancel_left h.units (c ++ s) (d ++ t) (ap (λ (l : List ℕ). l ++ (c ++ s)) (sym p.1) ∙ w))
    go (inr p) = absurd (parted_ones g.units h.units (c ++ s) (d ++ t) p.1 w)
