-- Of one list of units there is one answer, and how an answer stands to those for more units.
use Rattle.std.proofs.Common.{◌≡◌, ℕ, suc, ◌+◌, ◌<◌, ◌⊎◌, inl, inr, ⊎_elim, List, [], ◌∷◌, ◌++◌, length, length-append, sym, ap, ◌∙◌, append_assoc, arith}
use Rattle.std.proofs.lemmas.List.{append-nil, append_cancel_left}
use Rattle.std.proofs.lemmas.Bool.{cases_lt}
use Rattle.asn_rules.proofs.Live.Chunks.{FieldsPart, front_shorter, front_whole}
use Rattle.asn_rules.proofs.Live.Lists.{Within, Beyond, cut, no_length}
use Rattle.asn_rules.proofs.Languages.Then.{live_shorter}
use Rattle.asn_rules.specs.Chunks.{Chunk, flat}
use Rattle.asn_rules.specs.Languages.{AllContents, Spells, IsLive, Short, Refused}
use Rattle.asn_rules.specs.Live.{Fielding}

-- less than a spelling's front is live
pub live_within : {V : Type 0} {R : Fielding} {L : V → List Chunk → Type 0} {us : List ℕ} → FieldsPart R → (v : V) (x : List Chunk) → L v x → AllContents R x → Within us (flat R.spelled x) → IsLive R L us
live_within {R = R} {us = us} ok v x l f w = record { value = v; chunks = x; spelt = l; front = front_shorter R x us (w.next ∷ w.more) (rw w.split (front_whole ok x f)) }

-- a refusal and a front, a refusal and more, more and a front: never of one list
pub refused_or_done : {V : Type 0} {R : Fielding} {L : V → List Chunk → Type 0} {us r : List ℕ} {n : ℕ} {v : V} → Refused R L us n → Spells R L v us r → ⊥
refused_or_done {r = r} {v = v} h s = h.none v r s

-- more is wanted only where there is no front
pub short_or_done : {V : Type 0} {R : Fielding} {L : V → List Chunk → Type 0} {us r : List ℕ} {v : V} → Short R L us → Spells R L v us r → ⊥
short_or_done {r = r} {v = v} h s = h.none v r s

-- what is refused wants no more
pub refused_or_short : {V : Type 0} {R : Fielding} {L : V → List Chunk → Type 0} {us : List ℕ} {n : ℕ} → Refused R L us n → Short R L us → ⊥
refused_or_short {R = R} {L = L} {us = us} h s =
    let e : us ≡ (h.before ++ h.unit ∷ []) ++ h.after = h.split ∙ sym (append_assoc h.before (h.unit ∷ []) h.after) in
    h.dead (live_shorter (h.before ++ h.unit ∷ []) h.after (rw e at s.live))

-- a second refusal is no earlier
refused_le : {V : Type 0} {R : Fielding} {L : V → List Chunk → Type 0} {us : List ℕ} {m n : ℕ} → Refused R L us m → Refused R L us n → n < m → ⊥
refused_le {R = R} {L = L} {us = us} a b h = go (cut (a.before ++ a.unit ∷ []) a.after b.before (b.unit ∷ b.after) e)
  where
    e : (a.before ++ a.unit ∷ []) ++ a.after ≡ b.before ++ b.unit ∷ b.after
    e = append_assoc a.before (a.unit ∷ []) a.after ∙ sym a.split ∙ b.split

    go : Within (a.before ++ a.unit ∷ []) b.before ⊎ Beyond (a.before ++ a.unit ∷ []) b.before (b.unit ∷ b.after) a.after → ⊥
    go (inl w) = a.dead (live_shorter (a.before ++ a.unit ∷ []) (w.next ∷ w.more) (rw w.split b.live))
    go (inr w) =
        let l : suc (length b.after) ≡ length (w.rest ++ a.after) = ap length w.back in
        let g : suc (length b.after) ≡ length w.rest + length a.after = l ∙ length-append w.rest a.after in
        let z : w.rest ≡ [] = no_length w.rest (omega (arith, a.left_is, b.left_is)) in
        let f : a.before ++ a.unit ∷ [] ≡ b.before = w.front ∙ ap (λ (t : List ℕ). b.before ++ t) z ∙ append-nil b.before in
        a.dead (rw f b.live)

-- there is one refusal
pub one_refusal : {V : Type 0} {R : Fielding} {L : V → List Chunk → Type 0} {us : List ℕ} {m n : ℕ} → Refused R L us m → Refused R L us n → m ≡ n
one_refusal {m = m} {n = n} a b = ⊎_elim (λ h. absurd (refused_le b a h)) (λ h. ⊎_elim (λ g. absurd (refused_le a b g)) (λ g. omega arith) (cases_lt n m)) (cases_lt m n)

-- what is read stays so, whatever follows
pub done_stays : {V : Type 0} {R : Fielding} {L : V → List Chunk → Type 0} {us r : List ℕ} {v : V} (t : List ℕ) → Spells R L v us r → Spells R L v (us ++ t) (r ++ t)
done_stays {R = R} {r = r} t h = record { chunks = h.chunks; spelt = h.spelt; contents = h.contents; split = ap (λ (l : List ℕ). l ++ t) h.split ∙ append_assoc (flat R.spelled h.chunks) r t }

-- what is refused stays refused there
pub refused_stays : {V : Type 0} {R : Fielding} {L : V → List Chunk → Type 0} {us : List ℕ} {n : ℕ} → FieldsPart R → (t : List ℕ) → Refused R L us n → Refused R L (us ++ t) (n + length t)
refused_stays {V} {R} {L} {us} ok t h = record {
  before = h.before;
  unit = h.unit;
  after = h.after ++ t;
  split = ap (λ (l : List ℕ). l ++ t) h.split ∙ append_assoc h.before (h.unit ∷ h.after) t;
  left_is = length-append h.after t ∙ ap (λ (k : ℕ). k + length t) h.left_is;
  live = h.live;
  dead = h.dead;
  none = λ v r s. go v r s (cut (h.before ++ h.unit ∷ []) (h.after ++ t) (flat R.spelled s.chunks) r (whole ∙ s.split));
}
  where
    whole : (h.before ++ h.unit ∷ []) ++ (h.after ++ t) ≡ us ++ t
    whole = append_assoc h.before (h.unit ∷ []) (h.after ++ t) ∙ sym (ap (λ (l : List ℕ). l ++ t) h.split ∙ append_assoc h.before (h.unit ∷ h.after) t)

    go : (v : V) (r : List ℕ) (s : Spells R L v (us ++ t) r) → Within (h.before ++ h.unit ∷ []) (flat R.spelled s.chunks) ⊎ Beyond (h.before ++ h.unit ∷ []) (flat R.spelled s.chunks) r (h.after ++ t) → ⊥
    go v r s (inl w) = h.dead (live_within ok v s.chunks s.spelt s.contents w)
    go v r s (inr w) = h.none v (w.rest ++ h.after) (record {
      chunks = s.chunks;
      spelt = s.spelt;
      contents = s.contents;
      split = h.split ∙ sym (append_assoc h.before (h.unit ∷ []) h.after) ∙ ap (λ (l : List ℕ). l ++ h.after) w.front ∙ append_assoc (flat R.spelled s.chunks) w.rest h.after;
    })

-- where more is wanted, each answer comes within what follows
pub done_later : {V : Type 0} {R : Fielding} {L : V → List Chunk → Type 0} {us r : List ℕ} (t : List ℕ) {v : V} → Short R L us → Spells R L v (us ++ t) r → length r < length t
done_later {V} {R} {L} {us} {r} t {v} h s = go (cut us t (flat R.spelled s.chunks) r s.split)
  where
    go : Within us (flat R.spelled s.chunks) ⊎ Beyond us (flat R.spelled s.chunks) r t → length r < length t
    go (inl w) =
        let e : t ≡ (w.next ∷ w.more) ++ r = append_cancel_left us t ((w.next ∷ w.more) ++ r) (s.split ∙ ap (λ (l : List ℕ). l ++ r) (sym w.split) ∙ append_assoc us (w.next ∷ w.more) r) in
        let l : length t ≡ suc (length (w.more ++ r)) = ap length e in
        omega (arith, l ∙ ap suc (length-append w.more r))
    go (inr w) = absurd (h.none v w.rest (record { chunks = s.chunks; spelt = s.spelt; contents = s.contents; split = w.front }))

-- where more was wanted, a refusal comes within what follows
pub refused_later : {V : Type 0} {R : Fielding} {L : V → List Chunk → Type 0} {us : List ℕ} {n : ℕ} (t : List ℕ) → Short R L us → Refused R L (us ++ t) n → n < length t
refused_later {V} {R} {L} {us} {n} t h s = go (cut us t s.before (s.unit ∷ s.after) s.split)
  where
    go : Within us s.before ⊎ Beyond us s.before (s.unit ∷ s.after) t → n < length t
    go (inl w) =
        let e : t ≡ (w.next ∷ w.more) ++ s.unit ∷ s.after = append_cancel_left us t _ (s.split ∙ ap (λ (l : List ℕ). l ++ s.unit ∷ s.after) (sym w.split) ∙ append_assoc us (w.next ∷ w.more) (s.unit ∷ s.after)) in
        let l : length t ≡ suc (length (w.more ++ s.unit ∷ s.after)) = ap length e in
        omega (arith, l ∙ ap suc (length-append w.more (s.unit ∷ s.after)), s.left_is)
    go (inr w) = none w.rest w.front w.back
      where
        none : (q : List ℕ) → us ≡ s.before ++ q → s.unit ∷ s.after ≡ q ++ t → n < length t
        none [] e f = omega (arith, ap length f, s.left_is)
        none (u ∷ q) e f =
            let same : u ≡ s.unit = cc in
            let g : us ≡ (s.before ++ s.unit ∷ []) ++ q = e ∙ ap (λ (k : ℕ). s.before ++ k ∷ q) same ∙ sym (append_assoc s.before (s.unit ∷ []) q) in
            absurd (s.dead (live_shorter (s.before ++ s.unit ∷ []) q (rw g at h.live)))
