-- The next bits of a cursor, those that are added to a part and those that are passed.
use Rattle.std.proofs.Common.{◌≡◌, ◌≤◌, ◌+◌, ◌-◌, inl, inr, ⊎_elim, ℕ, zero, suc, min, List, [], ◌∷◌, ◌++◌, length, take, drop, length-append, refl, sym, ap, ◌∙◌, arith}
use Rattle.std.proofs.lemmas.Bool.{cases_lt}
use Rattle.std.proofs.lemmas.List.{take-append-drop, length-take-le, length-drop}
use Rattle.asn_per.specs.Walk.{per_coding}
use Rattle.asn_walk_feed.specs.Feeding.{ExtendsBy, Passes}

-- no unit
none_left : (us : List ℕ) → length us ≡ 0 → us ≡ []
none_left [] e = refl
none_left (u ∷ us) e = absurd (omega arith)

pub extends : (old new us : List ℕ) (n : ℕ) → n ≡ min (length us) (128 - length old) → new ≡ old ++ take n us → ExtendsBy per_coding old new us n
unfolding per_coding
extends old new us n e f =
    let many : length (take n us) ≡ n = length-take-le n us (omega (arith, e)) in
    record {
      front = take n us;
      rest = drop n us;
      joined = f;
      from = sym (take-append-drop n us);
      many = many;
      full = ⊎_elim
          (λ h. inr (omega (arith, e, h, many, ap length f, length-append old (take n us))))
          (λ h. inl (none_left (drop n us) (omega (arith, h, length-drop n us))))
          (cases_lt n (length us));
    }

-- what is left after some units and further ones
dropped : (a b : ℕ) (us : List ℕ) → drop b (drop a us) ≡ drop (a + b) us
dropped zero b us = ap (λ (i : ℕ). drop i us) (omega arith)
dropped (suc a) b [] = nothing b ∙ sym (nothing (suc a + b))
  where
    nothing : (i : ℕ) → drop {A = ℕ} i [] ≡ []
    nothing zero = refl
    nothing (suc i) = refl
dropped (suc a) b (u ∷ us) =
    let sum : suc (a + b) ≡ suc a + b = omega arith in
    dropped a b us ∙ ap (λ (i : ℕ). drop i (u ∷ us)) sum

pub passes : (old mid new : List ℕ) (a b n : ℕ) → a + b ≡ n → n ≤ length old → mid ≡ drop a old → new ≡ drop b mid → Passes per_coding old new n
unfolding per_coding
passes old mid new a b n e h f g =
    let left : new ≡ drop n old = g ∙ ap (λ (l : List ℕ). drop b l) f ∙ dropped a b old ∙ ap (λ (i : ℕ). drop i old) e in
    record {
      front = take n old;
      from = sym (take-append-drop n old) ∙ ap (λ (l : List ℕ). take n old ++ l) (sym left);
      many = length-take-le n old h;
    }
