-- Live by units and fields is live by chunks.
use Rattle.std.proofs.Common.{◌≡◌, ◌≤◌, ◌<◌, ◌+◌, ◌-◌, ◌⊎◌, ◌↔◌, ℕ, List, [], ◌∷◌, ◌++◌, length, take, drop, inl, inr, refl, sym, ◌∙◌, ap, subst, arith, append_assoc, length-append}
use Rattle.std.proofs.lemmas.List.{append-nil, append_cancel_left, take-append-drop}
use Rattle.std.proofs.Math.Seq.{take-append_seam, drop-append_seam, take-append-add}
use Rattle.std.specs.List.{AllByRecursion}
use Rattle.asn_values.specs.Fits.{Fits}
use Rattle.asn_rules.specs.Chunks.{Kind, open_field, utf8_field, rest_of, Chunk, one, sealed, ones, field_units, flat, fields_from}
use Rattle.asn_rules.specs.Reading.{IsSealed, AllSealed}
use Rattle.asn_rules.specs.Live.{Begins, BeginsProperly, SomeWithEarlier, Fielding, IsContent, Free, Bounded, BoundedBefore, Inside, Front, Live, LiveByChunks}
use Rattle.asn_values.specs.Datum.{Datum}
use Rattle.asn_values.specs.Shape.{Shape}

-- plain units have no field
pub sealed-ones : (r : Fielding) (us : List ℕ) → AllSealed r (ones us)
sealed-ones r [] = tt
sealed-ones r (u ∷ us) = sealed-ones r us

-- and chunks one after the other have those of both
pub sealed-append : (r : Fielding) (xs ys : List Chunk) → AllSealed r xs → AllSealed r ys → AllSealed r (xs ++ ys)
sealed-append r [] ys p q = q
sealed-append r (one u ∷ xs) ys p q = sealed-append r xs ys p q
sealed-append r (sealed k c ∷ xs) ys p q = (p.0, sealed-append r xs ys p.1 q)

-- one of two lists with the same whole begins the other
pub split : (xs us ys vs : List ℕ) → xs ++ ys ≡ us ++ vs
    → ((m : List ℕ) × (us ≡ xs ++ m) × (ys ≡ m ++ vs)) ⊎ ((u : ℕ) × (m : List ℕ) × (xs ≡ us ++ u ∷ m))
split [] us ys vs e = inl (us, refl, e)
split (x ∷ xs) [] ys vs e = inr (x, xs, refl)
split (x ∷ xs) (u ∷ us) ys vs e =
    let here : x ≡ u = cc in
    let later : xs ++ ys ≡ us ++ vs = cc in
    elim (split xs us ys vs later) [
      | inl w ↦ inl (w.0, cc (here, w.1), w.2)
      | inr w ↦ inr (w.0, w.1, cc (here, w.2))
    ]

module _ (r : Fielding) where
  -- the same with pre before both
  abbrev pub GoesAt : List ℕ → List Chunk → List ℕ → Type 0
  GoesAt pre cs us =
      (Begins (pre ++ us) (pre ++ flat r.spelled cs) × AllByRecursion (BoundedBefore (length (pre ++ us))) (fields_from r.spelled (length pre) cs))
      ⊎ SomeWithEarlier (λ f. Bounded f.kind f.content) (Inside r (pre ++ flat r.spelled cs) (pre ++ us)) (fields_from r.spelled (length pre) cs)

  -- fields from the end on start after it
  pub none_before : (cs : List Chunk) (end start : ℕ) → end ≤ start → AllByRecursion (BoundedBefore end) (fields_from r.spelled start cs)
  none_before [] end start h = tt
  none_before (one x ∷ cs) end start h = none_before cs end (start + 1) (omega arith)
  none_before (sealed k c ∷ cs) end start h = (λ l. absurd (omega arith), none_before cs end (start + length (field_units r.spelled k c)) (omega arith))

  -- pre grown by a part
  grown : (pre part us : List ℕ) (cs : List Chunk) → GoesAt (pre ++ part) cs us
      → (Begins (pre ++ (part ++ us)) (pre ++ (part ++ flat r.spelled cs)) × AllByRecursion (BoundedBefore (length (pre ++ (part ++ us)))) (fields_from r.spelled (length pre + length part) cs))
      ⊎ SomeWithEarlier (λ f. Bounded f.kind f.content) (Inside r (pre ++ (part ++ flat r.spelled cs)) (pre ++ (part ++ us))) (fields_from r.spelled (length pre + length part) cs)
  grown pre part us cs h = rw (length-append pre part, append_assoc pre part us, append_assoc pre part (flat r.spelled cs)) at h

  -- what is live chunk by chunk is so by units and fields
  pub front_goes : (cs : List Chunk) (pre us : List ℕ) → Front r cs us → GoesAt pre cs us
  front_goes [] pre [] h = inl (([], sym (append-nil (pre ++ []))), tt)
  front_goes [] pre (u ∷ us) h = absurd h
  front_goes (one x ∷ cs) pre [] h =
      inl ((x ∷ flat r.spelled cs, rw append-nil refl), none_before cs (length (pre ++ [])) (length pre + 1) (omega (arith, length-append pre [])))
  front_goes (one x ∷ cs) pre (u ∷ us) (e, h) = rw e (grown pre (x ∷ []) us cs (front_goes cs (pre ++ x ∷ []) us h))
  front_goes (sealed k c ∷ cs) pre us (inl free) = inr (inl (
    omega (arith, length-append pre us),
    take-append_seam pre us ∙ sym (take-append_seam pre _),
    rw drop-append_seam free,
  ))
  front_goes (sealed k c ∷ cs) pre us (inr (rest, e, bounded, h)) =
      let there : GoesAt pre (sealed k c ∷ cs) (field_units r.spelled k c ++ rest) =
      elim (grown pre (field_units r.spelled k c) rest cs (front_goes cs (pre ++ field_units r.spelled k c) rest h)) [
        | inl w ↦ inl (w.0, ((λ _. bounded), w.1))
        | inr w ↦ inr (inr (bounded, w))
      ] in
      subst (GoesAt pre (sealed k c ∷ cs)) (sym e) there

  -- pre grown by a part, the other way
  shrunk : (pre part us : List ℕ) (cs : List Chunk)
      → (Begins (pre ++ (part ++ us)) (pre ++ (part ++ flat r.spelled cs)) × AllByRecursion (BoundedBefore (length (pre ++ (part ++ us)))) (fields_from r.spelled (length pre + length part) cs))
      ⊎ SomeWithEarlier (λ f. Bounded f.kind f.content) (Inside r (pre ++ (part ++ flat r.spelled cs)) (pre ++ (part ++ us))) (fields_from r.spelled (length pre + length part) cs)
      → GoesAt (pre ++ part) cs us
  shrunk pre part us cs h = rw (length-append pre part, append_assoc pre part us, append_assoc pre part (flat r.spelled cs)) h

  -- what goes into a field that starts at start or later equals the units before it
  same_front : (cs : List Chunk) (start : ℕ) (o b : List ℕ) → SomeWithEarlier (λ f. Bounded f.kind f.content) (Inside r o b) (fields_from r.spelled start cs)
      → (n : ℕ) × (start ≤ n) × (n ≤ length b) × (take n b ≡ take n o)
  same_front [] start o b h = absurd h
  same_front (one x ∷ cs) start o b h = let w = same_front cs (start + 1) o b h in (w.0, omega arith, w.2, w.3)
  same_front (sealed k c ∷ cs) start o b (inl h) = (start, omega arith, h.0, h.1)
  same_front (sealed k c ∷ cs) start o b (inr h) = let w = same_front cs (start + length (field_units r.spelled k c)) o b h.1 in (w.0, omega arith, w.2, w.3)

  -- then the list with that much before it is spelled so
  front_is : (pre part us ys : List ℕ) (n : ℕ) → length pre + length part ≤ n → n ≤ length (pre ++ us) → take n (pre ++ us) ≡ take n (pre ++ (part ++ ys))
      → (rest : List ℕ) × (us ≡ part ++ rest)
  front_is pre part us ys n h l e =
      let k = n - (length pre + length part) in
      let after = drop n (pre ++ us) in
      let is_n : n ≡ length (pre ++ part) + k = omega (arith, length-append pre part) in
      let front : take n (pre ++ (part ++ ys)) ≡ pre ++ (part ++ take k ys) =
      ap (take n) (sym (append_assoc pre part ys)) ∙ ap (λ i. take i ((pre ++ part) ++ ys)) is_n ∙ take-append-add (pre ++ part) ys k ∙ append_assoc pre part (take k ys) in (
        take k ys ++ after,
        append_cancel_left pre _ _ (sym (take-append-drop n (pre ++ us)) ∙ ap (λ x. x ++ after) (e ∙ front)
            ∙ append_assoc pre (part ++ take k ys) after ∙ ap (λ x. pre ++ x) (append_assoc part (take k ys) after)),
      )

  -- a whole field has the units of its content with its length
  whole_units : (k : Kind) (c : List ℕ) → IsSealed r k c → field_units r.spelled k c ≡ r.spelled c
  whole_units open_field c is = refl
  whole_units utf8_field c is = refl
  whole_units (rest_of k us) c is = absurd is

  -- its content is one of its kind, where it is short enough
  its_content : (k : Kind) (c : List ℕ) → IsSealed r k c → Bounded k c → IsContent r k c
  its_content open_field c is b = is b
  its_content utf8_field c is b = is b
  its_content (rest_of k us) c is b = absurd is

  -- what is left to show of the rules: a field of either kind has at least one unit, whatever it holds
  module _ (open_starts : Free r open_field []) (utf8_starts : Free r utf8_field []) (some_units : (c : List ℕ) → 0 < length (r.spelled c)) where
    nothing_free : (k : Kind) (c : List ℕ) → IsSealed r k c → Free r k []
    nothing_free open_field c is = open_starts
    nothing_free utf8_field c is = utf8_starts
    nothing_free (rest_of k us) c is = absurd is

    some_field_units : (k : Kind) (c : List ℕ) → IsSealed r k c → 0 < length (field_units r.spelled k c)
    some_field_units k c is = omega (arith, ap length (whole_units k c is), some_units c)

    free_by : (pre us : List ℕ) (k : Kind) (c : List ℕ) → (length pre < length (pre ++ us) → Bounded k c) → IsSealed r k c → BeginsProperly us (field_units r.spelled k c) → Free r k us
    free_by pre [] k c before is p = nothing_free k c is
    free_by pre (u ∷ us) k c before is p = (c, its_content k c is (before (omega (arith, length-append pre (u ∷ us)))), p)

    pub goes_front : (cs : List Chunk) (pre us : List ℕ) → AllSealed r cs → GoesAt pre cs us → Front r cs us
    goes_front [] pre [] a h = tt
    goes_front [] pre (u ∷ us) a (inl (b, _)) =
        let e : (u ∷ us) ++ b.0 ≡ [] = append_cancel_left pre _ _ (sym (append_assoc pre (u ∷ us) b.0) ∙ sym b.1) in cc
    goes_front [] pre (u ∷ us) a (inr h) = h
    goes_front (one x ∷ cs) pre [] a h = tt
    goes_front (one x ∷ cs) pre (u ∷ us) a (inl (b, all)) =
        let e : x ∷ flat r.spelled cs ≡ u ∷ (us ++ b.0) = append_cancel_left pre _ _ (b.1 ∙ append_assoc pre (u ∷ us) b.0) in
        let same : u ≡ x = cc in
        (same, goes_front cs (pre ++ x ∷ []) us a (shrunk pre (x ∷ []) us cs (inl ((b.0, subst (λ y. pre ++ (x ∷ flat r.spelled cs) ≡ (pre ++ (y ∷ us)) ++ b.0) same b.1), subst (λ y. AllByRecursion (BoundedBefore (length (pre ++ (y ∷ us)))) (fields_from r.spelled (length pre + 1) cs)) same all))))
    goes_front (one x ∷ cs) pre (u ∷ us) a (inr h) =
        let w = same_front cs (length pre + 1) _ _ h in
        let is = front_is pre (x ∷ []) (u ∷ us) (flat r.spelled cs) w.0 w.1 w.2 w.3 in
        let same : u ≡ x = cc (is.1) in
        (same, goes_front cs (pre ++ x ∷ []) us a (shrunk pre (x ∷ []) us cs (inr (subst (λ y. SomeWithEarlier (λ f. Bounded f.kind f.content) (Inside r (pre ++ (x ∷ flat r.spelled cs)) (pre ++ (y ∷ us))) (fields_from r.spelled (length pre + 1) cs)) same h))))
    goes_front (sealed k c ∷ cs) pre us a (inl (b, all)) =
        elim (split (field_units r.spelled k c) us (flat r.spelled cs) b.0 (append_cancel_left pre _ _ (b.1 ∙ append_assoc pre us b.0))) [
          | inl w ↦
              inr (
                w.0,
                w.1,
                all.0 (omega (arith, length-append pre us, ap length w.1, length-append (field_units r.spelled k c) w.0, some_field_units k c a.0)),
                goes_front cs (pre ++ field_units r.spelled k c) w.0 a.1 (shrunk pre (field_units r.spelled k c) w.0 cs (inl (
                  (b.0, subst (λ y. pre ++ (field_units r.spelled k c ++ flat r.spelled cs) ≡ (pre ++ y) ++ b.0) w.1 b.1),
                  subst (λ y. AllByRecursion (BoundedBefore (length (pre ++ y))) (fields_from r.spelled (length pre + length (field_units r.spelled k c)) cs)) w.1 all.1,
                ))),
              )
          | inr w ↦ inl (free_by pre us k c all.0 a.0 w)
        ]
    goes_front (sealed k c ∷ cs) pre us a (inr (inl h)) = inl (rw drop-append_seam at h.2)
    goes_front (sealed k c ∷ cs) pre us a (inr (inr h)) =
        let w = same_front cs (length pre + length (field_units r.spelled k c)) _ _ h.1 in
        let is = front_is pre (field_units r.spelled k c) us (flat r.spelled cs) w.0 w.1 w.2 w.3 in
        inr (is.0, is.1, h.0, goes_front cs (pre ++ field_units r.spelled k c) is.0 a.1 (shrunk pre (field_units r.spelled k c) is.0 cs (inr (subst (λ y. SomeWithEarlier (λ f. Bounded f.kind f.content) (Inside r (pre ++ (field_units r.spelled k c ++ flat r.spelled cs)) (pre ++ y)) (fields_from r.spelled (length pre + length (field_units r.spelled k c)) cs)) is.1 h.1))))

    -- live by units and fields is live by chunks
    pub live_iff : (whole : Shape → Datum → List Chunk) (t : Shape) → ((v : Datum) → Fits t v → AllSealed r (whole t v)) → (b : List ℕ)
        → Live r whole t b ↔ LiveByChunks r whole t b
    live_iff whole t h b =
        ((λ l. (l.0, l.1, goes_front (whole t l.0) [] b (h l.0 l.1) l.2)), (λ l. (l.0, l.1, front_goes (whole t l.0) [] b l.2)))
