-- To one list of octets there is one answer.
use Rattle.std.proofs.Common.{◌≡◌, ◌≤◌, ◌<◌, ℕ, zero, suc, List, [], ◌∷◌, length, take, drop, inl, inr, refl, sym, ◌∙◌, ap, subst, arith}
use Rattle.std.proofs.lemmas.Bool.{cases_lt, cases_order}
use Rattle.std.proofs.lemmas.List.{length-take-le, take-append-drop}
use Rattle.asn_values.specs.Datum.{Datum}
use Rattle.asn_values.specs.Shape.{Shape}
use Rattle.asn_values.specs.Profile.{InProfile}
use Rattle.asn_bits.proofs.GeneralLengths.{all_take}
use Rattle.asn_rules.specs.Live.{Begins, Live, Place}
use Rattle.asn_rules.specs.Answer.{Ruling, IsEncoding, done, refused, too_long, more, Answer, LiveOctets}
use Rattle.asn_rules.specs.Laws.{AreOctets, RulesLaws, OneAnswer}
use Rattle.asn_rules.proofs.Live.Closed.{live_closed}

-- a shorter front begins a longer one
front_begins : (m n : ℕ) (s : List ℕ) → m ≤ n → Begins (take m s) (take n s)
front_begins zero n s l = (take n s, refl)
front_begins (suc m) zero s l = absurd (omega arith)
front_begins (suc m) (suc n) [] l = ([], refl)
front_begins (suc m) (suc n) (x ∷ s) l = let w = front_begins m n s (omega arith) in (w.0, ap (λ z. x ∷ z) w.1)

-- there is one first unit after which nothing is live
one_place : (IsLive : List ℕ → Type 0) (b : List ℕ) (k l : ℕ) → Place IsLive b k → Place IsLive b l → k ≡ l
one_place IsLive b k l p q = elim (cases_order k l) [
  | inl e ↦ e
  | inr (inl before) ↦ absurd (p.1 (q.2 k before))
  | inr (inr before) ↦ absurd (q.1 (p.2 l before))
]

-- octets that are live are refused at no position
pub live_not_refused : (r : Ruling) (t : Shape) (s : List ℕ) (k : ℕ) → LiveOctets r t s → Place (Live r.fielding r.whole t) (r.units s) k → ⊥
live_not_refused r t s k live place =
    place.1 (live_closed r.fielding r.whole t (take k (r.units s)) (drop k (r.units s)) (subst (Live r.fielding r.whole t) (sym (take-append-drop k (r.units s))) live))

module _ (r : Ruling) (laws : RulesLaws r) where
  -- where one front is an encoding, it is the only one
  one_front : (t : Shape) (s : List ℕ) (v w : Datum) (m n : ℕ) → InProfile t → AreOctets s → m ≤ n → n ≤ length s
      → IsEncoding r t v (take m s) → IsEncoding r t w (take n s) → (v ≡ w) × (m ≡ n)
  one_front t s v w m n p os l h a b =
      let same = laws.none_begins t v w (take m s) (take n s) p (all_take (λ o. o < 256) m s os).0 (all_take (λ o. o < 256) n s os).0 a b (front_begins m n s l) in (
        laws.one_value t v w (take n s) p (subst (IsEncoding r t v) same a) b,
        sym (length-take-le m s (omega arith)) ∙ ap length same ∙ length-take-le n s h,
      )

  -- two fronts that are encodings are one, of one value
  one_done : (t : Shape) (s : List ℕ) (v w : Datum) (m n : ℕ) → InProfile t → AreOctets s → Answer r t s (done v m) → Answer r t s (done w n) → done v m ≡ done w n
  one_done t s v w m n p os a b = elim (cases_lt m n) [
    | inl l ↦ let e = one_front t s v w m n p os (omega arith) b.0 a.1 b.1 in cc (e.0, e.1)
    | inr l ↦ let e = one_front t s w v n m p os l a.0 b.1 a.1 in cc (e.0, e.1)
  ]

  -- case by case
  pub one_answer : OneAnswer r
  one_answer t s (done v m) (done w n) p os a b = one_done t s v w m n p os a b
  one_answer t s (done v m) (refused l) p os a b = absurd (b.0 v m a.0 a.1)
  one_answer t s (done v m) too_long p os a b = absurd (b.0 v m a.0 a.1)
  one_answer t s (done v m) more p os a b = absurd (b.0 v m a.0 a.1)
  one_answer t s (refused k) (done w n) p os a b = absurd (a.0 w n b.0 b.1)
  one_answer t s (refused k) (refused l) p os a b = ap refused (one_place (Live r.fielding r.whole t) (r.units s) k l a.1 b.1)
  one_answer t s (refused k) too_long p os a b = absurd (live_not_refused r t s k b.1 a.1)
  one_answer t s (refused k) more p os a b = absurd (live_not_refused r t s k b.1 a.1)
  one_answer t s too_long (done w n) p os a b = absurd (a.0 w n b.0 b.1)
  one_answer t s too_long (refused l) p os a b = absurd (live_not_refused r t s l a.1 b.1)
  one_answer t s too_long too_long p os a b = refl
  one_answer t s too_long more p os a b = absurd (omega arith)
  one_answer t s more (done w n) p os a b = absurd (a.0 w n b.0 b.1)
  one_answer t s more (refused l) p os a b = absurd (live_not_refused r t s l a.1 b.1)
  one_answer t s more too_long p os a b = absurd (omega arith)
  one_answer t s more more p os a b = refl
