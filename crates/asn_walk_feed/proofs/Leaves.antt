-- From the answers for what has come of a part, and the next units after it, to those for all units.
use Rattle.std.proofs.Common.{◌≡◌, ◌<◌, ◌≤◌, ◌+◌, ⊎_elim, ℕ, zero, suc, List, [], ◌∷◌, ◌++◌, length, drop, length-append, refl, sym, ap, subst, ◌∙◌, append_assoc, arith}
use Rattle.std.proofs.Math.Seq.{drop-append_seam}
use Rattle.std.proofs.lemmas.List.{append-nil}
use Rattle.std.proofs.Math.Nat.{le-mul_of_pos_right, eq-or-lt_of_le}
use Rattle.asn_rules.specs.Chunks.{Chunk, flat}
use Rattle.asn_rules.specs.Live.{Fielding}
use Rattle.asn_rules.specs.Languages.{Spells, Short, Refused, Lawful, Inhabited, Row}
use Rattle.asn_rules.proofs.Live.Chunks.{FieldsPart}
use Rattle.asn_rules.proofs.Languages.Parts.{map_source}
use Rattle.asn_rules.proofs.Languages.Then.{live_nothing, live_shorter, one_front, then_splits}
use Rattle.asn_rules.proofs.Answer.Answers.{done_stays, refused_stays}
use Rattle.asn_walk.specs.Coding.{Coding}
use Rattle.asn_walk.specs.Laws.{Laws}
use Rattle.asn_walk_feed.specs.Feeding.{FeedLaws}

-- where more units are wanted, so they are of the first of these
pub front_short : {V : Type 0} {R : Fielding} {L : V → List Chunk → Type 0} (us vs : List ℕ) → Short R L (us ++ vs)
    → Short R L us
front_short us vs h = record {
  live = live_shorter us vs h.live;
  none = λ v r x. h.none v (r ++ vs) (done_stays vs x);
}

-- a part that is read in some units is not read in none
pub some_wanted : {V : Type 0} {R : Fielding} {L : V → List Chunk → Type 0} {v : V} {us r : List ℕ} → FieldsPart R
    → Lawful L → Inhabited L → Spells R L v us r → length r < length us → Short R L []
some_wanted {us = us} ok law some s l = record {
  live = live_nothing some;
  none = λ w t x.
      (let o = one_front ok law s (done_stays us x) in absurd (omega (arith, ap length o.1, length-append t us, l)));
}

-- where several take units, so they are
pub row_wanted : {V : Type 0} {R : Fielding} {L : V → List Chunk → Type 0} → FieldsPart R → Lawful L → Inhabited L → (n : ℕ)
    {vs : List V} {us r : List ℕ} → Spells R (Row L n) vs us r → length r < length us → Short R L []
row_wanted {R = R} ok law some zero {us = us} {r = r} s l =
    let same : us ≡ r = s.split ∙ ap (λ c. flat R.spelled c ++ r) s.spelt.empty in
    absurd (omega (arith, ap length same, l))
row_wanted {R = R} ok law some (suc n) {us = us} s l =
    let b = then_splits (map_source s).1 in
    let split : length us ≡ length (flat R.spelled b.earlier.chunks) + length b.rest = ap length b.earlier.split ∙ length-append (flat R.spelled b.earlier.chunks) b.rest in
    let fewer : length b.rest ≤ length us = omega (arith, split) in
    ⊎_elim (λ e. row_wanted ok law some n b.later (omega (arith, e, l))) (λ m. some_wanted ok law some b.earlier m) (eq-or-lt_of_le fewer)

-- where one is refused, of none at all more are wanted
pub nothing_refused : {V : Type 0} {R : Fielding} {L : V → List Chunk → Type 0} {us : List ℕ} {n : ℕ}
    → Refused R L us n → Short R L []
nothing_refused {V} {R} {L} {us} {n} h = record {
  live = live_shorter [] h.before h.live;
  none = λ v r x. h.none v (r ++ us) (done_stays us x);
}

-- a list of no length
pub no_units : (us : List ℕ) → length us ≡ 0 → us ≡ []
no_units [] e = refl
no_units (u ∷ us) e = absurd (omega (arith, e))

-- lists that end in as many units end alike
same_end : (xs ys s t : List ℕ) → xs ++ s ≡ ys ++ t → length s ≡ length t → s ≡ t
same_end xs ys s t e l =
    let n : length xs ≡ length ys = omega (arith, ap length e, length-append xs s, length-append ys t, l) in
    sym (drop-append_seam xs s) ∙ ap (λ (us : List ℕ). drop (length xs) us) e
    ∙ ap (λ (i : ℕ). drop i (ys ++ t)) n ∙ drop-append_seam ys t

-- what has come and the next units begin with a spelling; of the next units those that it has are passed
pub joined_done : {V : Type 0} {R : Fielding} {L : V → List Chunk → Type 0} {v : V}
    (begun front rest left passed new : List ℕ) → Spells R L v (begun ++ front) left → front ++ rest ≡ passed ++ new
    → length passed + length left ≡ length front → Spells R L v (begun ++ (front ++ rest)) new
joined_done {V} {R} {L} {v} begun front rest left passed new s e l =
    let k : Spells R L v ((begun ++ front) ++ rest) (left ++ rest) = done_stays rest s in
    let whole : flat R.spelled s.chunks ++ (left ++ rest) ≡ (begun ++ passed) ++ new =
    sym (append_assoc (flat R.spelled s.chunks) left rest) ∙ ap (λ (us : List ℕ). us ++ rest) (sym s.split)
    ∙ append_assoc begun front rest ∙ ap (λ (us : List ℕ). begun ++ us) e ∙ sym (append_assoc begun passed new) in
    let many : length (left ++ rest) ≡ length new =
    omega (arith, length-append left rest, ap length e, length-append front rest, length-append passed new, l) in
    let end : left ++ rest ≡ new = same_end (flat R.spelled s.chunks) (begun ++ passed) (left ++ rest) new whole many in
    subst (λ (us : List ℕ). Spells R L v us new) (append_assoc begun front rest)
    (subst (λ (us : List ℕ). Spells R L v ((begun ++ front) ++ rest) us) end k)

-- or one of them is refused, and passed with those before it
pub joined_refused : {V : Type 0} {R : Fielding} {L : V → List Chunk → Type 0} {n : ℕ}
    (begun front rest passed new : List ℕ) → FieldsPart R → Refused R L (begun ++ front) n
    → front ++ rest ≡ passed ++ new → length passed + n ≡ length front
    → Refused R L (begun ++ (front ++ rest)) (length new)
joined_refused {V} {R} {L} {n} begun front rest passed new ok s e l =
    let k : Refused R L ((begun ++ front) ++ rest) (n + length rest) = refused_stays ok rest s in
    let many : n + length rest ≡ length new =
    omega (arith, ap length e, length-append front rest, length-append passed new, l) in
    subst (λ (us : List ℕ). Refused R L us (length new)) (append_assoc begun front rest)
    (subst (λ (m : ℕ). Refused R L ((begun ++ front) ++ rest) m) many k)

-- or more are wanted than there are
pub joined_short : {V : Type 0} {R : Fielding} {L : V → List Chunk → Type 0} (begun front rest : List ℕ)
    → Short R L (begun ++ front) → rest ≡ [] → Short R L (begun ++ (front ++ rest))
joined_short {V} {R} {L} begun front rest s e =
    subst (λ (us : List ℕ). Short R L (begun ++ us)) (sym (ap (λ (us : List ℕ). front ++ us) e ∙ append-nil front)) s

-- some bits are some units
pub some_units : (c : Coding) → Laws c → FeedLaws c → (bs : List ℕ) → c.at_unit bs → (bs ≡ [] → ⊥) → 0 < length (c.to_units bs)
some_units c laws feeds [] a h = absurd (h refl)
some_units c laws feeds (b ∷ bs) a h =
    let n = feeds.rows.count (b ∷ bs) a in
    let m = le-mul_of_pos_right {m = c.octet_units} (length (b ∷ bs)) laws.some in
    omega (arith, n, m)
