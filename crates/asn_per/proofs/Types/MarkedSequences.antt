-- SEQUENCE with an extension mark in PER is put together from the SEQUENCE of its root and its additions.
use Rattle.std.proofs.Common.{◌≡◌, ◌≤◌, ◌⊎◌, inl, inr, ℕ, Bool, true, false, ◌||◌, List, [], ◌∷◌, ◌++◌, length, take, drop, nat_lt, Option, refl, sym, ap, subst, ◌∙◌, arith}
use Rattle.std.proofs.lemmas.Bool.{true≢false, ltb-false}
use Rattle.std.proofs.lemmas.List.{append-nil, take-append-drop}
use Rattle.std.proofs.Math.Seq.{take-append_seam, drop-append_seam}
use Rattle.asn_values.specs.Datum.{Datum, Components, components, component_list, components_of}
use Rattle.asn_values.specs.Shape.{must, optional, default, Fields, no_fields, field, closed, marked, demands, sequence}
use Rattle.asn_values.specs.Fits.{Fits, FitsEach, FitsMore}
use Rattle.asn_values.specs.Profile.{InProfile, TooMany, somewhere, some_field, too_many_here, most_nodes, most_components, most_additions}
use Rattle.asn_values.specs.Measures.{nodes}
use Rattle.asn_values.proofs.Parts.{left_false, right_false}
use Rattle.asn_values.proofs.InnerTypes.{additions_optional, additions_of_profile}
use Rattle.asn_rules.specs.Chunks.{Chunk, one, ones}
use Rattle.asn_rules.specs.Components.{bit_of, presence, any_present}
use Rattle.asn_rules.specs.Languages.{Then, Map}
use Rattle.asn_rules.specs.Forks.{Same}
use Rattle.asn_rules.specs.Spellings.{SpelledBy, FitsEither, either_code}
use Rattle.asn_rules.proofs.Law.Entries.{each_length, none_present}
use Rattle.asn_rules.proofs.Languages.Spellings.{same_after, same_then, same_map, same_fork, then_spelled, map_spelled, fork_spelled}
use Rattle.asn_per.specs.Per.{per, per_each, per_open, additions, small_length}
use Rattle.asn_walk.specs.Coding.{absent_entries}
use Rattle.asn_per.specs.Kinds.{Values, of_either, Additions, with_entries, MarkedSequences}
use Rattle.asn_per.proofs.Types.AdditionLanguages.{AreOptional, additions_spelled}
use Rattle.asn_per.proofs.Write.Spellings.{component_list-of, components_of-list}

-- ---- absent entries

-- none of them is present
pub none_of_absent : (fs : Fields) → any_present (absent_entries fs) ≡ false
none_of_absent no_fields = refl
none_of_absent (field name demand t fs) = none_of_absent fs

-- they fit additions that are OPTIONAL
pub absent_fit : (fs : Fields) → AreOptional fs → FitsEach fs (absent_entries fs)
absent_fit no_fields o = tt
absent_fit (field name optional t fs) o = (tt, absent_fit fs o)
absent_fit (field name must t fs) o = absurd (true≢false (sym o))
absent_fit (field name (default d) t fs) o = absurd (true≢false (sym o))

-- ---- the entries of the root, and those of the additions

module _ (root fs : Fields) where
  -- the bits of the root
  abbrev front : List (Option Datum) → List Chunk
  front es = ones (presence (demands root) es) ++ per_each root es

  -- the spelling of the SEQUENCE of the root by its entries
  abbrev closed_code : List (Option Datum) → List Chunk
  closed_code es = front es ++ []

  -- and that of the SEQUENCE with the mark
  abbrev marked_code : List (Option Datum) → List (Option Datum) → List Chunk
  marked_code es gs = (ones (bit_of (any_present gs) ∷ presence (demands root) es) ++ per_each root es) ++ additions (demands fs) gs (per_open fs gs)

  -- the entries of the root are the first ones
  root_back : (es gs : List (Option Datum)) → FitsEach root es → take (length (demands root)) (component_list (components_of (es ++ gs))) ≡ es
  root_back es gs h = ap (take (length (demands root))) (component_list-of (es ++ gs)) ∙ ap (λ (k : ℕ). take k (es ++ gs)) (sym (each_length root es h)) ∙ take-append_seam es gs

  -- and those of the additions the others
  added_back : (es gs : List (Option Datum)) → FitsEach root es → drop (length (demands root)) (component_list (components_of (es ++ gs))) ≡ gs
  added_back es gs h = ap (drop (length (demands root))) (component_list-of (es ++ gs)) ∙ ap (λ (k : ℕ). drop k (es ++ gs)) (sym (each_length root es h)) ∙ drop-append_seam es gs

  -- entries of both are a value
  marked_fits : (es gs : List (Option Datum)) → FitsEach root es → FitsEach fs gs → Fits (sequence root (marked fs)) (components (components_of (es ++ gs)))
  marked_fits es gs h g = (subst (FitsEach root) (sym (root_back es gs h)) h, subst (FitsEach fs) (sym (added_back es gs h)) g)

  -- and its spelling is theirs
  marked_is : (es gs : List (Option Datum)) → FitsEach root es → per (sequence root (marked fs)) (components (components_of (es ++ gs))) ≡ marked_code es gs
  marked_is es gs h =
      ap (λ (l : List (Option Datum)). marked_code l (drop (length (demands root)) (component_list (components_of (es ++ gs))))) (root_back es gs h) ∙ ap (λ (l : List (Option Datum)). marked_code es l) (added_back es gs h)

  -- of the SEQUENCE of the root all entries are of the root
  closed_all : (es : List (Option Datum)) → FitsMore closed (drop (length (demands root)) es) → take (length (demands root)) es ≡ es
  closed_all es h = go (drop (length (demands root)) es) refl h
    where
      go : (l : List (Option Datum)) → drop (length (demands root)) es ≡ l → FitsMore closed l → take (length (demands root)) es ≡ es
      go [] e h = sym (append-nil (take (length (demands root)) es)) ∙ ap (λ (l : List (Option Datum)). take (length (demands root)) es ++ l) (sym e) ∙ take-append-drop (length (demands root)) es
      go (x ∷ l) e h = absurd h

  -- so they fit its components
  closed_entries : (es : List (Option Datum)) → FitsEach root (take (length (demands root)) es) → FitsMore closed (drop (length (demands root)) es) → FitsEach root es
  closed_entries es h g = subst (FitsEach root) (closed_all es g) h

  -- and are spelt one after the other, following their presence bits
  closed_is : (cs : Components) → FitsMore closed (drop (length (demands root)) (component_list cs)) → per (sequence root closed) (components cs) ≡ front (component_list cs)
  closed_is cs h = ap closed_code (closed_all (component_list cs) h) ∙ append-nil (front (component_list cs))

  -- entries of the root are a value of it
  closed_fits : (es : List (Option Datum)) → FitsEach root es → Fits (sequence root closed) (components (components_of es))
  closed_fits es h =
      let all : es ++ [] ≡ es = append-nil es in (
        subst (λ (l : List (Option Datum)). FitsEach root (take (length (demands root)) (component_list (components_of l)))) all (subst (FitsEach root) (sym (root_back es [] h)) h),
        subst (λ (l : List (Option Datum)). FitsMore closed (drop (length (demands root)) (component_list (components_of l)))) all (subst (FitsMore closed) (sym (added_back es [] h)) tt),
      )

  -- ---- after the extension bit

  -- what stands after the extension bit
  abbrev after : Datum → List Chunk
  after v = drop 1 (per (sequence root (marked fs)) v)

  -- the values with the extension bit
  abbrev HasBit : ℕ → Datum → Type 0
  HasBit b v = Fits (sequence root (marked fs)) v × (per (sequence root (marked fs)) v ≡ one b ∷ after v)

  -- a spelling that begins with the bit goes on with what stands after it
  has_bit : (b : ℕ) (v : Datum) (rest : List Chunk) → Fits (sequence root (marked fs)) v → per (sequence root (marked fs)) v ≡ one b ∷ rest → HasBit b v × (rest ≡ after v)
  has_bit b v rest f e =
      let same : rest ≡ after v = sym (ap (drop 1) e) in
      ((f, e ∙ ap (λ (l : List Chunk). one b ∷ l) same), same)

  -- a value has the extension bit that its additions say
  the_bit : (cs : Components) → per (sequence root (marked fs)) (components cs) ≡ one (bit_of (any_present (drop (length (demands root)) (component_list cs)))) ∷ after (components cs)
  the_bit cs = refl

  -- a value of the marked SEQUENCE is one of the root with further entries
  split : (cs : Components) → components cs ≡ with_entries (components (components_of (take (length (demands root)) (component_list cs))), drop (length (demands root)) (component_list cs))
  split cs =
      let es = take (length (demands root)) (component_list cs) in
      let gs = drop (length (demands root)) (component_list cs) in
      ap components (sym (components_of-list cs) ∙ ap components_of (sym (take-append-drop (length (demands root)) (component_list cs)) ∙ ap (λ (l : List (Option Datum)). l ++ gs) (sym (component_list-of es))))

  -- without an addition the bit is 0, and the root stands after it
  marked_none : (es gs : List (Option Datum)) → any_present gs ≡ false → marked_code es gs ≡ one 0 ∷ front es
  marked_none es gs e =
      ap (λ (b : Bool). (ones (bit_of b ∷ presence (demands root) es) ++ per_each root es) ++ elim b [ true ↦ ones (small_length (length (demands fs)) ++ presence (demands fs) gs) ++ per_open fs gs | false ↦ [] ]) e
      ∙ ap (λ (l : List Chunk). one 0 ∷ l) (append-nil (front es))

  -- with one it is 1, and the root and the additions stand after it
  marked_some : (es gs : List (Option Datum)) → any_present gs ≡ true → marked_code es gs ≡ one 1 ∷ (front es ++ (ones (small_length (length (demands fs)) ++ presence (demands fs) gs) ++ per_open fs gs))
  marked_some es gs e =
      ap (λ (b : Bool). (ones (bit_of b ∷ presence (demands root) es) ++ per_each root es) ++ elim b [ true ↦ ones (small_length (length (demands fs)) ++ presence (demands fs) gs) ++ per_open fs gs | false ↦ [] ]) e

  -- 0 is not 1
  zero_one : (x y : List Chunk) → one 0 ∷ x ≡ one 1 ∷ y → ⊥
  zero_one x y e = let f : ◌≡◌ {A = ℕ} 0 1 = cc in omega arith

  module _ (good : InProfile (sequence root (marked fs))) where
    each_optional : AreOptional fs
    each_optional = additions_optional root fs good

    -- there are no more than 64 additions
    pub few_additions : length (demands fs) ≤ 64
    few_additions =
        let whole : somewhere too_many_here (sequence root (marked fs)) ≡ false = left_false (somewhere too_many_here (sequence root (marked fs))) (nat_lt most_nodes (nodes (sequence root (marked fs)))) (good TooMany) in
        let here : too_many_here (sequence root (marked fs)) ≡ false = left_false (too_many_here (sequence root (marked fs))) (some_field too_many_here root || some_field too_many_here fs) whole in
        ltb-false most_additions (length (demands fs)) (right_false (nat_lt most_components (length (demands root))) (nat_lt most_additions (length (demands fs))) here)

    -- no addition is present
    absent_side : Same (Map (λ v. with_entries (v, absent_entries fs)) (Values (sequence root closed))) (SpelledBy (HasBit 0) after)
    absent_side = map_spelled there back
      where
        there : (v : Datum) → Fits (sequence root closed) v → HasBit 0 (with_entries (v, absent_entries fs)) × (per (sequence root closed) v ≡ after (with_entries (v, absent_entries fs)))
        there (components cs) h =
            let es = component_list cs in
            let fit = closed_entries es h.0 h.1 in
            has_bit 0 (with_entries (components cs, absent_entries fs)) (per (sequence root closed) (components cs)) (marked_fits es (absent_entries fs) fit (absent_fit fs each_optional))
            (marked_is es (absent_entries fs) fit ∙ marked_none es (absent_entries fs) (none_of_absent fs) ∙ ap (λ (l : List Chunk). one 0 ∷ l) (sym (closed_is cs h.1)))
        there _ h = absurd h

        back : (v : Datum) → HasBit 0 v → (d : Datum) × Fits (sequence root closed) d × (v ≡ with_entries (d, absent_entries fs))
        back (components cs) h = go (any_present gs) refl
          where
            es : List (Option Datum)
            es = take (length (demands root)) (component_list cs)

            gs : List (Option Datum)
            gs = drop (length (demands root)) (component_list cs)

            go : (b : Bool) → any_present gs ≡ b → (d : Datum) × Fits (sequence root closed) d × (components cs ≡ with_entries (d, absent_entries fs))
            go true e = absurd (zero_one (after (components cs)) (after (components cs)) (sym h.1 ∙ the_bit cs ∙ ap (λ (b : Bool). one (bit_of b) ∷ after (components cs)) e))
            go false e =
                let fit = absent_fit fs each_optional in
                let same : gs ≡ absent_entries fs = none_present gs (absent_entries fs) (each_length fs gs h.0.1 ∙ sym (each_length fs (absent_entries fs) fit)) e (none_of_absent fs) in
                (components (components_of es), closed_fits es h.0.0, split cs ∙ ap (λ (l : List (Option Datum)). with_entries (components (components_of es), l)) same)
        back _ h = absurd h.0

    -- some addition is present
    some_side : Same (Map with_entries (Then (Values (sequence root closed)) (λ v. Additions fs))) (SpelledBy (HasBit 1) after)
    some_side =
        same_after (same_map (same_after (same_then {K = Values (sequence root closed)} (record { to = λ v cs h. h; from = λ v cs h. h }) (λ v. additions_spelled fs (additions_of_profile root fs good) each_optional few_additions)) then_spelled)) (map_spelled there back)
      where
        there : (p : Datum × List (Option Datum)) → Fits (sequence root closed) p.0 × (FitsEach fs p.1 × (any_present p.1 ≡ true))
            → HasBit 1 (with_entries p) × (per (sequence root closed) p.0 ++ (ones (small_length (length (demands fs)) ++ presence (demands fs) p.1) ++ per_open fs p.1) ≡ after (with_entries p))
        there (components cs, gs) h =
            let es = component_list cs in
            let fit = closed_entries es h.0.0 h.0.1 in
            has_bit 1 (with_entries (components cs, gs)) (per (sequence root closed) (components cs) ++ (ones (small_length (length (demands fs)) ++ presence (demands fs) gs) ++ per_open fs gs)) (marked_fits es gs fit h.1.0)
            (marked_is es gs fit ∙ marked_some es gs h.1.1 ∙ ap (λ (l : List Chunk). one 1 ∷ (l ++ (ones (small_length (length (demands fs)) ++ presence (demands fs) gs) ++ per_open fs gs))) (sym (closed_is cs h.0.1)))
        there (_, gs) h = absurd h.0

        back : (v : Datum) → HasBit 1 v → (p : Datum × List (Option Datum)) × (Fits (sequence root closed) p.0 × (FitsEach fs p.1 × (any_present p.1 ≡ true))) × (v ≡ with_entries p)
        back (components cs) h = go (any_present gs) refl
          where
            es : List (Option Datum)
            es = take (length (demands root)) (component_list cs)

            gs : List (Option Datum)
            gs = drop (length (demands root)) (component_list cs)

            go : (b : Bool) → any_present gs ≡ b → (p : Datum × List (Option Datum)) × (Fits (sequence root closed) p.0 × (FitsEach fs p.1 × (any_present p.1 ≡ true))) × (components cs ≡ with_entries p)
            go false e = absurd (zero_one (after (components cs)) (after (components cs)) (sym (ap (λ (b : Bool). one (bit_of b) ∷ after (components cs)) e) ∙ sym (the_bit cs) ∙ h.1))
            go true e = ((components (components_of es), gs), (closed_fits es h.0.0, (h.0.1, e)), split cs)
        back _ h = absurd h.0

    -- SEQUENCE with an extension mark
    pub marked_sequences_compose : Same (MarkedSequences root fs) (Values (sequence root (marked fs)))
    marked_sequences_compose = same_after (same_map (same_after (same_fork absent_side some_side) fork_spelled)) (map_spelled there back)
      where
        there : (w : Datum ⊎ Datum) → FitsEither (HasBit 0) (HasBit 1) w → Fits (sequence root (marked fs)) (of_either w) × (either_code after after w ≡ per (sequence root (marked fs)) (of_either w))
        there (inl v) h = (h.0, sym h.1)
        there (inr v) h = (h.0, sym h.1)

        back : (v : Datum) → Fits (sequence root (marked fs)) v → (w : Datum ⊎ Datum) × FitsEither (HasBit 0) (HasBit 1) w × (v ≡ of_either w)
        back (components cs) h = go (any_present (drop (length (demands root)) (component_list cs))) refl
          where
            go : (b : Bool) → any_present (drop (length (demands root)) (component_list cs)) ≡ b → (w : Datum ⊎ Datum) × FitsEither (HasBit 0) (HasBit 1) w × (components cs ≡ of_either w)
            go true e = (inr (components cs), (h, the_bit cs ∙ ap (λ (b : Bool). one (bit_of b) ∷ after (components cs)) e), refl)
            go false e = (inl (components cs), (h, the_bit cs ∙ ap (λ (b : Bool). one (bit_of b) ∷ after (components cs)) e), refl)
        back _ h = absurd h
