-- What is left of rows, of general lengths and of plain languages that have begun.
use Rattle.std.proofs.Common.{◌≡◌, ◌≢◌, ℕ, zero, suc, ◌+◌, ◌⊎◌, inl, inr, List, [], ◌∷◌, ◌++◌, refl, sym, ap, ◌∙◌, subst, append_assoc, arith}
use Rattle.std.proofs.lemmas.List.{append_cancel_left}
use Rattle.asn_rules.proofs.Remaining.Carries.{carries_none, carries_both, carries_map, carries_first, carries_after, taken}
use Rattle.asn_rules.proofs.Live.Chunks.{FieldsPart, ones-append}
use Rattle.asn_rules.proofs.Live.Flat.{flat-ones}
use Rattle.asn_rules.proofs.Languages.Forks.{same_flip, carries_left, carries_whole, map_map, map_same}
use Rattle.asn_rules.proofs.Numbers.General.{general_once, general_follows}
use Rattle.asn_rules.proofs.Live.Lists.{Within, Beyond, cut}
use Rattle.asn_rules.proofs.Languages.Parts.{map_source, contents-ones, front_ones}
use Rattle.asn_rules.proofs.Languages.Rows.{row_inhabited}
use Rattle.asn_rules.proofs.Languages.Then.{Follows, Both, then_splits}
use Rattle.asn_rules.specs.Begun.{After, AllPlain}
use Rattle.asn_rules.specs.Chunks.{Chunk, one, flat, ones}
use Rattle.asn_rules.specs.Forks.{Branch, Fork, Same}
use Rattle.asn_rules.specs.General.{Header, after_first, Body, General}
use Rattle.asn_rules.specs.Languages.{AllContents, IsFront, Spells, NoSpelling, IsLive, Lawful, Inhabited, Then, Map, Row, prepended, Plain, Whole, Carries}
use Rattle.asn_rules.specs.Live.{Fielding}
use Rattle.asn_rules.specs.Parted.{Parted}

-- a row follows anything
follows_row : {A : Type 0} {L : A → List Chunk → Type 0} {B : Type 0} {N : B → List Chunk → Type 0} → Inhabited L → (n : ℕ) → Follows N (λ _. Row L n)
follows_row i n = record { follow = λ a x h. row_inhabited i n }

-- After i values of a row, the others.
pub row_after : {A : Type 0} {R : Fielding} (L : A → List Chunk → Type 0) → FieldsPart R → Lawful L → Inhabited L → (i m k : ℕ) {vs : List A} {us : List ℕ} → i + m ≡ k → Whole R (Row L i) vs us → Carries R (Map (λ (ws : List A). vs ++ ws) (Row L m)) (Row L k) us
row_after {A} {R} L ok law i zero m k {vs} {us} e h =
    let base : Carries R (Map (λ (ws : List A). [] ++ ws) (Row L m)) (Row L m) [] = carries_left (same_flip (map_same (λ a. refl))) (carries_none R (Row L m)) in
    let q : m ≡ k = omega arith in
    let none : us ≡ [] = h.split ∙ ap (λ (c : List Chunk). flat R.spelled c ++ []) h.spelt.empty in
    subst (λ (l : List A). Carries R (Map (λ (ws : List A). l ++ ws) (Row L m)) (Row L k) us) (sym h.spelt.same) (subst (λ (n : ℕ). Carries R (Map (λ (ws : List A). [] ++ ws) (Row L m)) (Row L n) us) q (subst (λ (u : List ℕ). Carries R (Map (λ (ws : List A). [] ++ ws) (Row L m)) (Row L m) u) (sym none) base))
row_after L ok law i (suc n) m zero e h = absurd (omega arith)
row_after {A} {R} L ok law i (suc n) m (suc k) {vs} {us} e h = go (map_source h) (λ vs us e w. row_after L ok law i n m k {vs = vs} {us = us} e w)
  where
    go : (a : A × List A) × Spells R (Then L (λ _. Row L n)) a us [] × (vs ≡ prepended a) → ((vs : List A) (us : List ℕ) → n + m ≡ k → Whole R (Row L n) vs us → Carries R (Map (λ (ws : List A). vs ++ ws) (Row L m)) (Row L k) us) → Carries R (Map (λ (ws : List A). vs ++ ws) (Row L m)) (Row L (suc k)) us
    go p again = subst (λ (l : List A). Carries R (Map (λ (ws : List A). l ++ ws) (Row L m)) (Row L (suc k)) us) (sym p.2) (subst (λ (u : List ℕ). Carries R (Map (λ (ws : List A). prepended p.0 ++ ws) (Row L m)) (Row L (suc k)) u) (sym t.2) (carries_left same (carries_both (carries_map (carries_after (λ _. Row L k) ok law (follows_row i k) t.1)) (carries_map (carries_map (again p.0.1 b.rest (omega arith) b.later))))))
      where
        b : Both R L (λ _. Row L n) p.0 us []
        b = then_splits p.1

        t : (t : List ℕ) × Whole R L p.0.0 t × (us ≡ t ++ b.rest)
        t = taken b.earlier

        same : Same (Map (λ (ws : List A). prepended p.0 ++ ws) (Row L m)) (Map prepended (Map (λ (ws : List A). (p.0.0, ws)) (Map (λ (ws : List A). p.0.1 ++ ws) (Row L m))))
        same = record {
          to = λ v cs w. record { source = (p.0.0, p.0.1 ++ w.source); spelt = record { source = p.0.1 ++ w.source; spelt = record { source = w.source; spelt = w.spelt; seen = refl }; seen = refl }; seen = w.seen };
          from = λ v cs w. record { source = w.spelt.spelt.source; spelt = w.spelt.spelt.spelt; seen = w.seen ∙ ap prepended w.spelt.seen ∙ ap (λ (l : List A). p.0.0 ∷ l) w.spelt.spelt.seen };
        }

-- A row of which some values have been read and one has begun: what is left, and how it goes on.
abbrev pub InRow : {A : Type 0} → (A → List Chunk → Type 0) → (A → List Chunk → Type 0) → List A → ℕ → List A → List Chunk → Type 0
InRow L N vs m = Map (λ p. vs ++ (p.0 ∷ p.1)) (Then N (λ _. Row L m))

-- some values have been read and one has begun
pub row_begun : {A : Type 0} {R : Fielding} (L N : A → List Chunk → Type 0) → FieldsPart R → Lawful L → Inhabited L → (i m k : ℕ) {vs : List A} {us ws : List ℕ} → i + suc m ≡ k → Whole R (Row L i) vs us → Carries R N L ws → Carries R (InRow L N vs m) (Row L k) (us ++ ws)
row_begun {A} {R} L N ok law i n m k {vs} {us} {ws} e h c = carries_left (same_flip (map_map (λ p. refl))) (carries_both (row_after L ok law i n (suc m) k e h) (carries_map (carries_map (carries_first (λ _. Row L m) ok (follows_row i m) (follows_row i m) c))))

-- the begun value goes on
pub row_goes : {A : Type 0} {R : Fielding} (L N K : A → List Chunk → Type 0) → FieldsPart R → Inhabited L → (vs : List A) (m : ℕ) {us : List ℕ} → Carries R K N us → Carries R (InRow L K vs m) (InRow L N vs m) us
row_goes L N K ok i vs m c = carries_map (carries_first (λ _. Row L m) ok (follows_row i m) (follows_row i m) c)

-- the begun value ends
pub row_next : {A : Type 0} {R : Fielding} (L N : A → List Chunk → Type 0) → FieldsPart R → Lawful N → Inhabited L → (vs : List A) (m : ℕ) {v : A} {us : List ℕ} → Whole R N v us → Carries R (Map (λ (ws : List A). (vs ++ v ∷ []) ++ ws) (Row L m)) (InRow L N vs m) us
row_next {A} {R} L N ok law i vs m {v} {us} h = carries_left same (carries_map (carries_after (λ _. Row L m) ok law (follows_row i m) h))
  where
    same : Same (Map (λ (ws : List A). (vs ++ v ∷ []) ++ ws) (Row L m)) (Map (λ (p : A × List A). vs ++ (p.0 ∷ p.1)) (Map (λ (ws : List A). (v, ws)) (Row L m)))
    same = record {
      to = λ w cs x. record { source = (v, x.source); spelt = record { source = x.source; spelt = x.spelt; seen = refl }; seen = x.seen ∙ append_assoc vs (v ∷ []) x.source };
      from = λ w cs x. record { source = x.spelt.source; spelt = x.spelt.spelt; seen = x.seen ∙ ap (λ (p : A × List A). vs ++ (p.0 ∷ p.1)) x.spelt.seen ∙ sym (append_assoc vs (v ∷ []) x.spelt.source) };
    }

-- Plain languages.
pub plain_plain : {A : Type 0} {C : A → List ℕ → Type 0} → AllPlain (Plain C)
plain_plain = record { plain = λ v cs h. (h.units, h.same) }

-- under a view
pub map_plain : {A B : Type 0} {f : A → B} {L : A → List Chunk → Type 0} → AllPlain L → AllPlain (Map f L)
map_plain a = record { plain = λ v cs h. a.plain h.source cs h.spelt }

-- one after the other
pub then_plain : {A B : Type 0} {L : A → List Chunk → Type 0} {M : A → B → List Chunk → Type 0} → AllPlain L → ((a : A) → AllPlain (M a)) → AllPlain (Then L M)
then_plain a b = record {
  plain = λ v cs h.
      let x = a.plain v.0 h.first h.spelt in
      let y = (b v.0).plain v.1 h.second h.follows in
      (x.0 ++ y.0, h.whole ∙ ap (λ (l : List Chunk). l ++ h.second) x.1 ∙ ap (λ (l : List Chunk). ones x.0 ++ l) y.1 ∙ sym (ones-append x.0 y.0));
}

-- after a bit
pub fork_plain : {A B : Type 0} {X : A → List Chunk → Type 0} {Y : B → List Chunk → Type 0} → AllPlain X → AllPlain Y → AllPlain (Fork X Y)
fork_plain {A} {B} {X} {Y} a b = record { plain = λ v cs h. go v cs h.side }
  where
    go : (v : A ⊎ B) (cs : List Chunk) → Branch 0 inl X v cs ⊎ Branch 1 inr Y v cs → (us : List ℕ) × (cs ≡ ones us)
    go v cs (inl x) = (let p = a.plain x.value x.rest x.spelt in (0 ∷ p.0, x.same ∙ ap (λ (l : List Chunk). one 0 ∷ l) p.1))
    go v cs (inr x) = (let p = b.plain x.value x.rest x.spelt in (1 ∷ p.0, x.same ∙ ap (λ (l : List Chunk). one 1 ∷ l) p.1))

-- lengths are plain units
pub header_plain : (S : ℕ → Type 0) → AllPlain (Header S)
header_plain S = map_plain (fork_plain plain_plain (fork_plain plain_plain plain_plain))

-- what begins a spelling, after plain units
front_after : (R : Fielding) (us : List ℕ) (x : List Chunk) (s : List ℕ) → IsFront R x s → IsFront R (ones us ++ x) (us ++ s)
front_after R [] x s h = h
front_after R (u ∷ us) x s h = (refl, front_after R us x s h)

-- contents, after plain units
fine_after : (R : Fielding) (us : List ℕ) (x : List Chunk) → AllContents R x → AllContents R (ones us ++ x)
fine_after R [] x h = h
fine_after R (u ∷ us) x h = fine_after R us x h

-- units, after plain units
flat_after : (R : Fielding) (us : List ℕ) (x : List Chunk) → flat R.spelled (ones us ++ x) ≡ us ++ flat R.spelled x
flat_after R [] x = refl
flat_after R (u ∷ us) x = ap (λ (l : List ℕ). u ∷ l) (flat_after R us x)

-- plain units begin more of them
pub front_of_ones : (R : Fielding) (us t : List ℕ) → IsFront R (ones (us ++ t)) us
front_of_ones R [] t = tt
front_of_ones R (u ∷ us) t = (refl, front_of_ones R us t)

-- After units that are no spelling and have none in front, what is left of a plain language.
pub carries_begun : {V : Type 0} {R : Fielding} {L : V → List Chunk → Type 0} (us : List ℕ) → AllPlain L → NoSpelling R L us → Carries R (After us L) L us
carries_begun {V} {R} {L} us plain never = record {
  reads = λ v s r h. record {
    chunks = ones us ++ h.chunks;
    spelt = h.spelt.spelt;
    contents = fine_after R us h.chunks h.contents;
    split = ap (λ (l : List ℕ). us ++ l) h.split ∙ sym (append_assoc us (flat R.spelled h.chunks) r) ∙ ap (λ (l : List ℕ). l ++ r) (sym (flat_after R us h.chunks));
  };
  read = λ v s r h. read v s r h (plain.plain v h.chunks h.spelt);
  lives = λ s h. record { value = h.value; chunks = ones us ++ h.chunks; spelt = h.spelt.spelt; front = front_after R us h.chunks s h.front };
  live = λ s h. live s h (plain.plain h.value h.chunks h.spelt);
}
  where
    read : (v : V) (s r : List ℕ) (h : Spells R L v (us ++ s) r) → (w : List ℕ) × (h.chunks ≡ ones w) → Spells R (After us L) v s r
    read v s r h w = go (cut us s w.0 r split)
      where
        split : us ++ s ≡ w.0 ++ r
        split = h.split ∙ ap (λ (c : List Chunk). flat R.spelled c ++ r) w.1 ∙ ap (λ (l : List ℕ). l ++ r) (flat-ones R.spelled w.0)

        go : Within us w.0 ⊎ Beyond us w.0 r s → Spells R (After us L) v s r
        go (inl x) =
            let t = x.next ∷ x.more in
            let e : s ≡ t ++ r = append_cancel_left us s (t ++ r) (split ∙ ap (λ (l : List ℕ). l ++ r) (sym x.split) ∙ append_assoc us t r) in
            let c : h.chunks ≡ ones us ++ ones t = w.1 ∙ ap ones (sym x.split) ∙ ones-append us t in
            record { chunks = ones t; spelt = record { spelt = subst (λ (d : List Chunk). L v d) c h.spelt }; contents = contents-ones R t; split = e ∙ ap (λ (l : List ℕ). l ++ r) (sym (flat-ones R.spelled t)) }
        go (inr x) = absurd (never v x.rest (record { chunks = h.chunks; spelt = h.spelt; contents = h.contents; split = x.front ∙ ap (λ (l : List ℕ). l ++ x.rest) (sym (ap (flat R.spelled) w.1 ∙ flat-ones R.spelled w.0)) }))

    live : (s : List ℕ) (h : IsLive R L (us ++ s)) → (w : List ℕ) × (h.chunks ≡ ones w) → IsLive R (After us L) s
    live s h w =
        let f : IsFront R (ones w.0) (us ++ s) = subst (λ (c : List Chunk). IsFront R c (us ++ s)) w.1 h.front in
        let p = front_ones R w.0 (us ++ s) f in
        let c : h.chunks ≡ ones us ++ ones (s ++ p.0) = w.1 ∙ ap ones (p.1 ∙ append_assoc us s p.0) ∙ ones-append us (s ++ p.0) in
        record { value = h.value; chunks = ones (s ++ p.0); spelt = record { spelt = subst (λ (d : List Chunk). L h.value d) c h.spelt }; front = front_of_ones R s p.0 }

-- what parts after the same units parts
strip : (us : List ℕ) (x y : List Chunk) → Parted (ones us ++ x) (ones us ++ y) → Parted x y
strip [] x y p = p
strip (u ∷ us) x y (inl n) = absurd (n refl)
strip (u ∷ us) x y (inr p) = strip us x y p.1

-- what is left is one or parts
pub after_lawful : {V : Type 0} {L : V → List Chunk → Type 0} (us : List ℕ) → Lawful L → Lawful (After us L)
after_lawful {V} {L} us law = record { law = λ v w x y p q. go v w x y (law.law v w (ones us ++ x) (ones us ++ y) p.spelt q.spelt) }
  where
    go : (v w : V) (x y : List Chunk) → ((v ≡ w) × (ones us ++ x ≡ ones us ++ y)) ⊎ ((v ≢ w) × Parted (ones us ++ x) (ones us ++ y)) → ((v ≡ w) × (x ≡ y)) ⊎ ((v ≢ w) × Parted x y)
    go v w x y (inl e) = inl (e.0, append_cancel_left (ones us) x y e.1)
    go v w x y (inr e) = inr (e.0, strip us x y e.1)

-- what follows the whole follows what is left
pub after_follows : {A B : Type 0} {L : A → List Chunk → Type 0} {M : A → B → List Chunk → Type 0} (us : List ℕ) → Follows L M → Follows (After us L) M
after_follows us f = record { follow = λ a x h. f.follow a (ones us ++ x) h.spelt }

-- A general length inside a length.
pub general_in_length : {A : Type 0} {R : Fielding} (L : A → List Chunk → Type 0) (S : ℕ → Type 0) (us : List ℕ) → FieldsPart R → Inhabited L → NoSpelling R (Header S) us → Carries R (Map after_first (Then (After us (Header S)) (Body L (General L) S))) (General L S) us
general_in_length L S us ok i n = carries_whole (general_once L S) (carries_map (carries_first (Body L (General L) S) ok (general_follows S i) (after_follows us (general_follows S i)) (carries_begun us (header_plain S) n)))
