-- If some encoding extends these units, one extends each prefix of them.
use Rattle.std.proofs.Common.{◌≡◌, ◌≤◌, ◌+◌, ◌-◌, ◌⊎◌, ℕ, List, [], ◌∷◌, ◌++◌, length, take, drop, inl, inr, sym, ◌∙◌, ap, subst, arith, append_assoc, length-append}
use Rattle.std.proofs.lemmas.Bool.{cases_lt}
use Rattle.std.proofs.lemmas.List.{append-nil, take-append-drop, take-append-le, drop-append-le}
use Rattle.std.proofs.Math.Seq.{take-append-add}
use Rattle.std.specs.List.{AllByRecursion}
use Rattle.asn_values.specs.Datum.{Datum}
use Rattle.asn_values.specs.Shape.{Shape}
use Rattle.asn_rules.specs.Chunks.{Chunk, one, sealed, field_units, flat, SealedField, fields_from}
use Rattle.asn_rules.specs.Live.{Begins, BeginsProperly, SomeWithEarlier, Fielding, Bounded, BoundedBefore, Inside, GoesOn}
use Rattle.asn_rules.specs.Laws.{LiveIsClosed}
use Rattle.asn_rules.proofs.Live.Fronts.{none_before}

-- a beginning of a proper beginning is one
begins_earlier : (x y whole : List ℕ) → BeginsProperly (x ++ y) whole → BeginsProperly x whole
begins_earlier x [] whole p = subst (λ z. BeginsProperly z whole) (append-nil x) p
begins_earlier x (z ∷ y) whole (u, rest, e) = (z, y ++ u ∷ rest, e ∙ append_assoc x (z ∷ y) (u ∷ rest))

-- fields that are short enough where they start before the end of some units are so before an earlier end
bounded_earlier : (m n : ℕ) (fs : List SealedField) → n ≤ m → AllByRecursion (BoundedBefore m) fs → AllByRecursion (BoundedBefore n) fs
bounded_earlier m n [] h all = tt
bounded_earlier m n (f ∷ fs) h all = ((λ l. all.0 (omega arith)), bounded_earlier m n fs h all.1)

-- what is taken from equal fronts
begins_by_front : (n : ℕ) (x y o : List ℕ) → length x ≤ n → take n (x ++ y) ≡ take n o → Begins x o
begins_by_front n x y o h e =
    let k = n - length x in
    let is_n : n ≡ length x + k = omega arith in
    let front : take n (x ++ y) ≡ x ++ take k y = ap (λ i. take i (x ++ y)) is_n ∙ take-append-add x y k in
    (take k y ++ drop n o, sym (take-append-drop n o) ∙ ap (λ z. z ++ drop n o) (sym e ∙ front) ∙ append_assoc x (take k y) (drop n o))

module _ (r : Fielding) where
  -- a beginning of what goes into a field goes into it too, or ends before it
  inside_or_before : (cs : List Chunk) (start : ℕ) (o x y : List ℕ)
      → SomeWithEarlier (λ f. Bounded f.kind f.content) (Inside r o (x ++ y)) (fields_from r.spelled start cs)
      → SomeWithEarlier (λ f. Bounded f.kind f.content) (Inside r o x) (fields_from r.spelled start cs)
      ⊎ (Begins x o × AllByRecursion (BoundedBefore (length x)) (fields_from r.spelled start cs))
  inside_or_before [] start o x y h = absurd h
  inside_or_before (one u ∷ cs) start o x y h = inside_or_before cs (start + 1) o x y h
  inside_or_before (sealed k c ∷ cs) start o x y (inl (l, e, free)) =
      elim (cases_lt (length x) start) [
        | inl before ↦ inr (begins_by_front start x y o (omega arith) e, ((λ a. absurd (omega arith)), none_before r cs (length x) (start + length (field_units r.spelled k c)) (omega arith)))
        | inr after ↦
            let content = free.0 in
            let begun : BeginsProperly (drop start x ++ y) (field_units r.spelled k content) = subst (λ z. BeginsProperly z (field_units r.spelled k content)) (drop-append-le start x y after) free.2 in
            inl (inl (after, sym (take-append-le start x y after) ∙ e, (content, free.1, begins_earlier (drop start x) y (field_units r.spelled k content) begun)))
      ]
  inside_or_before (sealed k c ∷ cs) start o x y (inr (bounded, h)) =
      elim (inside_or_before cs (start + length (field_units r.spelled k c)) o x y h) [
        | inl w ↦ inl (inr (bounded, w))
        | inr w ↦ inr (w.0, ((λ a. bounded), w.1))
      ]

  -- the units and fields of one value
  goes_on_earlier : (cs : List Chunk) (x y : List ℕ) → GoesOn r cs (x ++ y) → GoesOn r cs x
  goes_on_earlier cs x y (inl (b, all)) =
      inl ((y ++ b.0, b.1 ∙ append_assoc x y b.0), bounded_earlier (length (x ++ y)) (length x) (fields_from r.spelled 0 cs) (omega (arith, length-append x y)) all)
  goes_on_earlier cs x y (inr h) =
      elim (inside_or_before cs 0 (flat r.spelled cs) x y h) [
        | inl w ↦ inr w
        | inr w ↦ inl w
      ]

  -- of all rules, whatever their spellings
  pub live_closed : (whole : Shape → Datum → List Chunk) → LiveIsClosed r whole
  live_closed whole t x y (v, fits, on) = (v, fits, goes_on_earlier (whole t v) x y on)
