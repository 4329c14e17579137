-- A type with a constraint has one answer to all octets.
use Rattle.std.proofs.Common.{◌≡◌, ℕ, inl, inr, Bool, true, false, List, length, take, refl, sym, ap, ◌∙◌}
use Rattle.std.proofs.lemmas.Bool.{true≢false}
use Rattle.asn_values.specs.Datum.{Datum, nothing}
use Rattle.asn_values.specs.Shape.{Shape}
use Rattle.asn_rules.specs.Answer.{Ruling, Told, done, refused, too_long, more, Answer}
use Rattle.asn_constraints.specs.Constraints.{Constraint, meets}
use Rattle.asn_constrained.specs.Under.{RefusedByConstraint, AnswerUnder}

-- ---- two answers are one

unfoldable pub value_of : Told → Datum
value_of (done v n) = v
value_of _ = nothing

octets_of : Told → ℕ
octets_of (done v n) = n
octets_of _ = 0

is_done : Told → Bool
is_done (done v n) = true
is_done _ = false

pub one_answer : (r : Ruling) (t : Shape) (c : Constraint) (s : List ℕ) → ((a b : Told) → Answer r t s a → Answer r t s b → a ≡ b) → (a b : Told) → AnswerUnder r t c s a → AnswerUnder r t c s b → a ≡ b
unfolding is_done value_of octets_of
one_answer r t c s one = go
  where
    apart : (v : Datum) (n : ℕ) (b : Told) → is_done b ≡ false → Answer r t s (done v n) → Answer r t s b → ⊥
    apart v n b none x y = true≢false (ap is_done (one (done v n) b x y) ∙ none)

    both : (v w : Datum) (n m : ℕ) → meets c v ≡ true → meets c w ≡ false → Answer r t s (done v n) → Answer r t s (done w m) → ⊥
    both v w n m good bad x y = true≢false (sym good ∙ ap (λ u. meets c (value_of u)) (one (done v n) (done w m) x y) ∙ bad)

    same_place : (k j : ℕ) → RefusedByConstraint r t c s k → RefusedByConstraint r t c s j → refused k ≡ refused j
    same_place k j p q =
        let octets : p.octets ≡ q.octets = ap octets_of (one (done p.breaks.value p.octets) (done q.breaks.value q.octets) p.breaks.answered q.breaks.answered) in
        ap refused (p.place ∙ ap (λ n. length (r.units (take n s))) octets ∙ sym q.place)

    go : (a b : Told) → AnswerUnder r t c s a → AnswerUnder r t c s b → a ≡ b
    go (done v n) (done w m) p q = one (done v n) (done w m) p.0 q.0
    go (done v n) (refused k) p (inl q) = absurd (apart v n (refused k) refl p.0 q)
    go (done v n) (refused k) p (inr q) = absurd (both v q.breaks.value n q.octets p.1 q.breaks.broken p.0 q.breaks.answered)
    go (done v n) too_long p q = absurd (apart v n too_long refl p.0 q)
    go (done v n) more p q = absurd (apart v n more refl p.0 q)
    go (refused k) (done w m) (inl p) q = absurd (apart w m (refused k) refl q.0 p)
    go (refused k) (done w m) (inr p) q = absurd (both w p.breaks.value m p.octets q.1 p.breaks.broken q.0 p.breaks.answered)
    go (refused k) (refused j) (inl p) (inl q) = one (refused k) (refused j) p q
    go (refused k) (refused j) (inl p) (inr q) = absurd (apart q.breaks.value q.octets (refused k) refl q.breaks.answered p)
    go (refused k) (refused j) (inr p) (inl q) = absurd (apart p.breaks.value p.octets (refused j) refl p.breaks.answered q)
    go (refused k) (refused j) (inr p) (inr q) = same_place k j p q
    go (refused k) too_long (inl p) q = one (refused k) too_long p q
    go (refused k) too_long (inr p) q = absurd (apart p.breaks.value p.octets too_long refl p.breaks.answered q)
    go (refused k) more (inl p) q = one (refused k) more p q
    go (refused k) more (inr p) q = absurd (apart p.breaks.value p.octets more refl p.breaks.answered q)
    go too_long (done w m) p q = absurd (apart w m too_long refl q.0 p)
    go too_long (refused j) p (inl q) = one too_long (refused j) p q
    go too_long (refused j) p (inr q) = absurd (apart q.breaks.value q.octets too_long refl q.breaks.answered p)
    go too_long too_long p q = refl
    go too_long more p q = one too_long more p q
    go more (done w m) p q = absurd (apart w m more refl q.0 p)
    go more (refused j) p (inl q) = one more (refused j) p q
    go more (refused j) p (inr q) = absurd (apart q.breaks.value q.octets more refl q.breaks.answered p)
    go more too_long p q = one more too_long p q
    go more more p q = refl

-- ---- some answer is there where the type has one

pub some_answer : (r : Ruling) (t : Shape) (c : Constraint) (s : List ℕ) (a : Told) → Answer r t s a → (b : Told) × AnswerUnder r t c s b
some_answer r t c s (done v n) x = go (meets c v) refl
  where
    go : (b : Bool) → meets c v ≡ b → (told : Told) × AnswerUnder r t c s told
    go true e = (done v n, (x, e))
    go false e = (refused (length (r.units (take n s))), inr (record { octets = n; breaks = record { value = v; answered = x; broken = e }; place = refl }))
some_answer r t c s (refused k) x = (refused k, inl x)
some_answer r t c s too_long x = (too_long, x)
some_answer r t c s more x = (more, x)
