-- Sealed fields read by their spelling: the content first, whatever it is, and then what it must be.
use Rattle.std.proofs.Common.{◌≡◌, ◌≢◌, ℕ, ◌⊎◌, inl, inr, ⊎_elim, List, [], ◌∷◌, ◌++◌, length, sym, ap, ◌∙◌, append_assoc}
use Rattle.std.proofs.lemmas.List.{append-nil}
use Rattle.std.proofs.lemmas.Bool.{cases_eq}
use Rattle.asn_rules.proofs.Remaining.Carries.{plain_live}
use Rattle.asn_rules.proofs.Live.Chunks.{FieldsPart}
use Rattle.asn_rules.proofs.Sealed.Headed.{plain_front}
use Rattle.asn_rules.proofs.Live.Lists.{last_unit, lists_same_or_not}
use Rattle.asn_rules.proofs.Languages.Parts.{Code, plain_lawful, plain_short, plain_spells, plain_begins, sealed_spells, sealed_short, sealed_refused_length, sealed_refused_content}
use Rattle.asn_rules.specs.Chunks.{Kind, ones, field_units}
use Rattle.asn_rules.specs.Frames.{IsField, Frame}
use Rattle.asn_rules.specs.Languages.{InField, Spells, IsLive, Short, Refused, Lawful, Sealed, SomeContent}
use Rattle.asn_rules.specs.Live.{Fielding, IsContent}
use Rattle.asn_rules.specs.Parted.{Parted}

-- lists that nothing after them makes one part
apart : (us vs : List ℕ) → ((s t : List ℕ) → us ++ s ≡ vs ++ t → ⊥) → Parted (ones us) (ones vs)
apart [] vs f = absurd (f vs [] (sym (append-nil vs)))
apart (u ∷ us) [] f = absurd (f [] (u ∷ us) (append-nil (u ∷ us)))
apart (u ∷ us) (v ∷ vs) f = ⊎_elim (λ e. inr (e, apart us vs (λ s t q. f s t cc))) (λ n. inl n) (cases_eq u v)

-- two fields are one or part
pub frame_code : {R : Fielding} → FieldsPart R → (k : Kind) → Code (IsField R k)
frame_code {R} ok k = record { law = λ c d us vs p q. go c d us vs p q (lists_same_or_not c d) }
  where
    go : (c d us vs : List ℕ) → IsField R k c us → IsField R k d vs → (c ≡ d) ⊎ (c ≢ d) → ((c ≡ d) × (us ≡ vs)) ⊎ ((c ≢ d) × Parted (ones us) (ones vs))
    go c d us vs p q (inl e) = inl (e, p.same ∙ ap (field_units R.spelled k) e ∙ sym q.same)
    go c d us vs p q (inr n) = inr (n, apart us vs (λ s t e. n (ok.tells k c d s t p.contents q.contents (ap (λ (l : List ℕ). l ++ s) (sym p.same) ∙ e ∙ ap (λ (l : List ℕ). l ++ t) q.same))))

-- as spellings
pub frame_lawful : {R : Fielding} → FieldsPart R → (k : Kind) → Lawful (Frame R k)
frame_lawful ok k = plain_lawful (frame_code ok k)

-- a beginning of a frame with no frame in front is less than a field
begun_of : {R : Fielding} {k : Kind} {us : List ℕ} → IsLive R (Frame R k) us → ((c : List ℕ) → IsField R k c us → ⊥) → InField R k us
begun_of {R} {k} {us} l never = go b.0 b.1 b.2
  where
    b : (c : List ℕ) × (t : List ℕ) × IsField R k c (us ++ t)
    b = plain_begins l

    go : (c t : List ℕ) → IsField R k c (us ++ t) → InField R k us
    go c [] f = absurd (never c (rw append-nil at f))
    go c (u ∷ t) f = record { content = c; contents = f.contents; next = u; more = t; split = f.same }

-- a frame that wants more is less than a field
pub frame_begun : {R : Fielding} {k : Kind} {us : List ℕ} → Short R (Frame R k) us → InField R k us
frame_begun {R} {k} {us} s = begun_of s.live (λ c f. s.none c [] (let p = plain_spells R {C = IsField R k} c us [] f in rw append-nil at p))

-- less than a field is the beginning of a frame
pub begun_frame : {R : Fielding} {k : Kind} {us : List ℕ} → FieldsPart R → InField R k us → Short R (Frame R k) us
begun_frame {R} {k} {us} ok f = plain_short ok (frame_code ok k) f.content us f.next f.more (record { contents = f.contents; same = f.split })

-- The field is not over.
pub frame_short : {A : Type 0} {R : Fielding} {k : Kind} {D : A → List ℕ → Type 0} {us : List ℕ} → FieldsPart R → SomeContent D → Short R (Frame R k) us → Short R (Sealed k D) us
frame_short ok i s = sealed_short ok i (frame_begun s)

-- No field of any content goes on so: its length is not well spelt.
pub frame_refused : {A : Type 0} {R : Fielding} {k : Kind} {D : A → List ℕ → Type 0} {us : List ℕ} {n : ℕ} → FieldsPart R → SomeContent D → Refused R (Frame R k) us n → Refused R (Sealed k D) us n
frame_refused {A} {R} {k} {D} {us} {n} ok i s = rw s.split (rw (← s.left_is) (sealed_refused_length ok i s.before s.unit s.after free less whole))
  where
    free : InField R k s.before
    free = begun_of s.live (λ c f. s.none c (s.unit ∷ s.after) (rw s.split (plain_spells R {C = IsField R k} c s.before (s.unit ∷ s.after) f)))

    less : InField R k (s.before ++ s.unit ∷ []) → ⊥
    less f = s.dead (begun_frame ok f).live

    whole : (c : List ℕ) → IsContent R k c → s.before ++ s.unit ∷ [] ≡ field_units R.spelled k c → ⊥
    whole c f e = s.dead (plain_live c (s.before ++ s.unit ∷ []) [] (record { contents = f; same = append-nil (s.before ++ s.unit ∷ []) ∙ e }))

-- The field has been read, and its content is what it must be.
pub frame_spells : {A : Type 0} {R : Fielding} {k : Kind} {D : A → List ℕ → Type 0} {a : A} {c us r : List ℕ} → Spells R (Frame R k) c us r → D a c → Spells R (Sealed k D) a us r
frame_spells {A} {R} {k} {D} {a} {c} {us} {r} s d =
    let p = plain_front s in
    let e : us ≡ field_units R.spelled k c ++ r = p.2 ∙ ap (λ (l : List ℕ). l ++ r) p.1.same in
    rw e (sealed_spells R a c r d p.1.contents)

-- The field has been read, and its content is nothing that it must be: refused at its last unit.
pub frame_refused_content : {A : Type 0} {R : Fielding} {k : Kind} {D : A → List ℕ → Type 0} {c us r : List ℕ} → FieldsPart R → SomeContent D → Spells R (Frame R k) c us r → ((a : A) → D a c → ⊥) → Refused R (Sealed k D) us (length r)
frame_refused_content {A} {R} {k} {D} {c} {us} {r} ok i s never = go p.1.contents (p.2 ∙ ap (λ (l : List ℕ). l ++ r) p.1.same) (last_unit (field_units R.spelled k c) (ok.some_units k c p.1.contents))
  where
    p : (h : List ℕ) × IsField R k c h × (us ≡ h ++ r)
    p = plain_front s

    go : IsContent R k c → us ≡ field_units R.spelled k c ++ r → (b : List ℕ) × (u : ℕ) × (b ++ u ∷ [] ≡ field_units R.spelled k c) → Refused R (Sealed k D) us (length r)
    go f g q =
        let d : us ≡ q.0 ++ q.1 ∷ r = g ∙ ap (λ (x : List ℕ). x ++ r) (sym q.2) ∙ append_assoc q.0 (q.1 ∷ []) r in
        rw d (sealed_refused_content ok i c q.0 q.1 r f q.2 never)
