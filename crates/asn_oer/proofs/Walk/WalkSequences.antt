-- SEQUENCE in OER is a preamble, the components under its presence bits, and the additions under the extension bit, as
-- the walk over all types puts it together.
use Rattle.std.proofs.Common.{◌≡◌, ◌≤◌, ◌<◌, ◌^◌, ℕ, zero, suc, Bool, true, false, List, [], ◌∷◌, ◌++◌, length, take, drop, Option, None, Some, is_some, refl, sym, ap, ◌∙◌, subst, append_assoc, arith}
use Rattle.std.specs.Prelude.{replicate}
use Rattle.std.proofs.lemmas.Bool.{true≢false}
use Rattle.std.proofs.lemmas.List.{take-append-drop}
use Rattle.std.proofs.Math.Seq.{take-append_seam, drop-append_seam}
use Rattle.asn_values.specs.Datum.{Datum, components, component_list, components_of}
use Rattle.asn_values.specs.Shape.{demands, sequence, Fields, no_fields, field, MoreFields, closed, marked, more_fields, is_marked}
use Rattle.asn_values.specs.Fits.{Fits, FitsEach, FitsMore}
use Rattle.asn_values.specs.Profile.{InProfile}
use Rattle.asn_values.proofs.Parts.{components_of_profile}
use Rattle.asn_bits.specs.Numbers.{bits}
use Rattle.asn_bits.specs.Sets.{IsBits, weighted}
use Rattle.asn_bits.proofs.Octets.{length-digits}
use Rattle.asn_bits.proofs.Weights.{bits_only, are_digits}
use Rattle.asn_rules.specs.Chunks.{Chunk, ones}
use Rattle.asn_rules.specs.Components.{bit_of, any_present, presence, extension_bit}
use Rattle.asn_rules.specs.Forks.{Same}
use Rattle.asn_rules.specs.Languages.{Then, Nothing}
use Rattle.asn_rules.specs.Listed.{Spelt, Listed, bitmap_length}
use Rattle.asn_rules.specs.Spellings.{SpelledBy}
use Rattle.asn_rules.proofs.Law.Entries.{each_length, presence_bits, same_components}
use Rattle.asn_rules.proofs.Languages.Forks.{same_flip}
use Rattle.asn_rules.proofs.Languages.Spellings.{same_after, same_then, same_map, same_spelled, map_spelled, then_spelled}
use Rattle.asn_rules.specs.Filled.{filled_bits}
use Rattle.asn_walk.specs.Coding.{absent_entries, added, CanExtend, GoodPreamble, AdditionBitmapOf, AddedOf, sequence_told, SequencesOf}
use Rattle.asn_walk.specs.Coding as walk
use Rattle.asn_oer.specs.Oer.{oer, oer_each, oer_additions}
use Rattle.asn_oer.specs.Preambles.{Bitmap}
use Rattle.asn_oer.specs.Sequences.{OpenListed, Additions}
use Rattle.asn_oer.specs.Walk.{oer_coding}
use Rattle.asn_oer.proofs.Types.AdditionLanguages.{is_extended, AdditionsFit, additions_language}
use Rattle.asn_oer.proofs.Types.ComponentLanguages.{Under, listed_language}
use Rattle.asn_oer.proofs.Types.FilledLanguages.{bitmap_language}
use Rattle.asn_oer.proofs.Law.GoodTypes.{good}
use Rattle.asn_oer.proofs.Types.SequenceLanguages.{length-presence_bits}
use Rattle.asn_oer.proofs.Encodings.SpeltTypes.{few_additions}
use Rattle.asn_oer.proofs.Types.LeftOut.{none_left_out}

-- components of a list are that list
list_of_components : (es : List (Option Datum)) → component_list (components_of es) ≡ es
list_of_components [] = refl
list_of_components (None ∷ es) = ap (λ (l : List (Option Datum)). None ∷ l) (list_of_components es)
list_of_components (Some d ∷ es) = ap (λ (l : List (Option Datum)). Some d ∷ l) (list_of_components es)

-- ---- the additions

-- the open fields of those that are present
same_open_listed : (fs : Fields) (bs : List ℕ) → Same (walk.OpenListed oer_coding fs bs) (OpenListed fs bs)
unfolding oer_coding
same_open_listed no_fields bs = record { to = λ v cs h. h; from = λ v cs h. h }
same_open_listed (field name demand t fs) [] = record { to = λ v cs h. h; from = λ v cs h. h }
same_open_listed (field name demand t fs) (zero ∷ bs) = same_map (same_open_listed fs bs)
same_open_listed (field name demand t fs) (suc b ∷ bs) = same_map (same_then (record { to = λ v cs h. h; from = λ v cs h. h }) (λ _. same_open_listed fs bs))

-- the entries of additions that are all absent
absent_is : (fs : Fields) → absent_entries fs ≡ replicate (length (demands fs)) None
absent_is no_fields = refl
absent_is (field name demand t fs) = ap (λ (l : List (Option Datum)). None ∷ l) (absent_is fs)

-- their presence bits
same_bitmap : (n : ℕ) → n ≤ 64 → Same (AdditionBitmapOf oer_coding n) (Bitmap n)
unfolding oer_coding
same_bitmap n few = same_after (same_spelled (λ m h. (omega (arith, h.0), h.1)) (λ m h. (omega (arith, h.0), h.1)) (λ m h. refl)) (same_flip (bitmap_language n few))

module _ (root : Fields) (more : MoreFields) (fine : InProfile (sequence root more)) where
  -- by the extension bit
  same_added : (b : Bool) → Same (AddedOf oer_coding more b) (Additions more (bit_of b))
  same_added b = go more fine b
    where
      go : (m : MoreFields) → InProfile (sequence root m) → (b : Bool) → Same (AddedOf oer_coding m b) (Additions m (bit_of b))
      go m g false = subst (λ (l : List (Option Datum)). Same (AddedOf oer_coding m false) (Nothing l)) (absent_is (more_fields m)) (record { to = λ v cs h. h; from = λ v cs h. h })
      go closed g true = record { to = λ v cs h. none h.spelt.spelt.fits; from = λ v cs h. absurd h }
        where
          none : {m : ℕ} → (0 < m) × (m < 2 ^ 0) → ⊥
          none h = omega (arith, h.0, h.1)
      go (marked fs) g true = same_map (same_then (same_bitmap (length (demands fs)) (few_additions root fs (good (sequence root (marked fs)) g))) (λ m. same_open_listed fs (bits (length (demands fs)) m)))

  added_spelled : (b : Bool) → Same (AddedOf oer_coding more b) (SpelledBy (AdditionsFit more (bit_of b)) (oer_additions more))
  added_spelled b = same_after (same_added b) (additions_language root more fine (bit_of b))

  -- the extension bit says whether an addition is present
  extended_is : (b : Bool) → is_extended (bit_of b) ≡ b
  extended_is true = refl
  extended_is false = refl

  -- ---- the whole

  -- how many presence bits there are
  abbrev presences : ℕ
  presences = bitmap_length root

  -- the components and additions after a preamble
  abbrev After : Bool × ℕ → List (Option Datum) × List (Option Datum) → Type 0
  After p q = Under root (bits presences p.1) q.0 × AdditionsFit more (bit_of p.0) q.1

  after_spelled : (p : Bool × ℕ) → Same (Then (Listed oer root (bits presences p.1)) (λ _. AddedOf oer_coding more p.0)) (SpelledBy (After p) (λ q. oer_each root q.0 ++ oer_additions more q.1))
  after_spelled p = same_after (same_then (listed_language root (bits presences p.1) (components_of_profile root more fine) (are_digits 2 presences p.1 (omega arith)) (length-digits 2 presences p.1)) (λ _. added_spelled p.0)) then_spelled

  -- there is an extension bit where there is a mark
  mark_is : is_some (added more) ≡ is_marked more
  mark_is = go more
    where
      go : (m : MoreFields) → is_some (added m) ≡ is_marked m
      go closed = refl
      go (marked fs) = refl

  -- an addition that is present is one of some
  can_extend : (gs : List (Option Datum)) → FitsMore more gs → any_present gs ≡ true → CanExtend (added more)
  can_extend gs f e = go more gs f e
    where
      go : (m : MoreFields) (gs : List (Option Datum)) → FitsMore m gs → any_present gs ≡ true → CanExtend (added m)
      go closed [] f e = absurd (true≢false (sym e))
      go closed (g ∷ gs) f e = absurd f
      go (marked no_fields) [] f e = absurd (true≢false (sym e))
      go (marked no_fields) (g ∷ gs) f e = absurd f
      go (marked (field name demand t fs)) gs f e = tt

  -- the entries of a value, and its spelling by them
  abbrev EntriesFit : List (Option Datum) → Type 0
  EntriesFit es = FitsEach root (take (length (demands root)) es) × FitsMore more (drop (length (demands root)) es)

  abbrev entries_code : List (Option Datum) → List (Option Datum) → List Chunk
  entries_code root_entries added_entries = ones (filled_bits (extension_bit (is_marked more) (any_present added_entries) ++ presence (demands root) root_entries)) ++ oer_each root root_entries ++ oer_additions more added_entries

  abbrev whole_code : List (Option Datum) → List Chunk
  whole_code es = entries_code (take (length (demands root)) es) (drop (length (demands root)) es)

  -- a preamble and what stands after it are a value's
  there : (p : Bool × ℕ) (es gs : List (Option Datum)) → Under root (bits presences p.1) es → AdditionsFit more (bit_of p.0) gs
      → EntriesFit (component_list (components_of (es ++ gs))) × (ones (filled_bits (extension_bit (is_some (added more)) p.0 ++ bits presences p.1)) ++ (oer_each root es ++ oer_additions more gs) ≡ whole_code (component_list (components_of (es ++ gs))))
  there p es gs u a =
      let n : length es ≡ length (demands root) = each_length root es u.0 in
      let first : take (length (demands root)) (es ++ gs) ≡ es = ap (λ (i : ℕ). take i (es ++ gs)) (sym n) ∙ take-append_seam es gs in
      let second : drop (length (demands root)) (es ++ gs) ≡ gs = ap (λ (i : ℕ). drop i (es ++ gs)) (sym n) ∙ drop-append_seam es gs in
      let any : p.0 ≡ any_present gs = sym (extended_is p.0) ∙ sym a.1 in
      let front : extension_bit (is_some (added more)) p.0 ++ bits presences p.1 ≡ extension_bit (is_marked more) (any_present gs) ++ presence (demands root) es =
      ap (λ (b : Bool). extension_bit b p.0 ++ bits presences p.1) mark_is ∙ ap (λ (b : Bool). extension_bit (is_marked more) b ++ bits presences p.1) any ∙ ap (λ (l : List ℕ). extension_bit (is_marked more) (any_present gs) ++ l) (sym u.1) in
      let code : ones (filled_bits (extension_bit (is_some (added more)) p.0 ++ bits presences p.1)) ++ (oer_each root es ++ oer_additions more gs) ≡ entries_code es gs =
      sym (append_assoc (ones (filled_bits (extension_bit (is_some (added more)) p.0 ++ bits presences p.1))) (oer_each root es) (oer_additions more gs)) ∙ ap (λ (l : List ℕ). ones (filled_bits l) ++ oer_each root es ++ oer_additions more gs) front in
      let all : es ++ gs ≡ component_list (components_of (es ++ gs)) = sym (list_of_components (es ++ gs)) in
      let fits : EntriesFit (es ++ gs) = (subst (FitsEach root) (sym first) u.0, subst (FitsMore more) (sym second) a.0) in
      let whole : entries_code es gs ≡ whole_code (es ++ gs) = ap (λ (x : List (Option Datum)). entries_code x gs) (sym first) ∙ ap (λ (x : List (Option Datum)). entries_code (take (length (demands root)) (es ++ gs)) x) (sym second) in
      (subst EntriesFit all fits, code ∙ whole ∙ ap whole_code all)

  -- and each value has them
  back : (es gs : List (Option Datum)) → FitsEach root es → FitsMore more gs → (p : Bool × ℕ) × GoodPreamble presences (added more) p × Under root (bits presences p.1) es × AdditionsFit more (bit_of p.0) gs
  back es gs f g =
      let l = presence (demands root) es in
      let w = weighted 2 l in
      let is : IsBits presences w l = record { digits = presence_bits (demands root) es; count = length-presence_bits root es f; sum = refl } in
      let o = bits_only presences w l is in
      ((any_present gs, w), (o.0, can_extend gs g), (f, o.1), (g, sym (extended_is (any_present gs))))

  -- SEQUENCE
  pub walk_sequences : Same (SequencesOf oer_coding root more) (Spelt oer_coding.code None (sequence root more))
  unfolding oer_coding
  walk_sequences =
      same_after (same_map (same_after (same_then (record { to = λ v cs h. h; from = λ v cs h. h }) after_spelled) then_spelled))
      (same_after (map_spelled (λ p f. there p.0 p.1.0 p.1.1 f.1.0 f.1.1) from) (none_left_out (sequence root more)))
    where
      from : (v : Datum) → Fits (sequence root more) v → (p : (Bool × ℕ) × (List (Option Datum) × List (Option Datum))) × (GoodPreamble presences (added more) p.0 × After p.0 p.1) × (v ≡ sequence_told p)
      from (components cs) f =
          let k = length (demands root) in
          let es = take k (component_list cs) in
          let gs = drop k (component_list cs) in
          let w = back es gs f.0 f.1 in
          let same : component_list cs ≡ component_list (components_of (es ++ gs)) = sym (take-append-drop k (component_list cs)) ∙ sym (list_of_components (es ++ gs)) in
          ((w.0, (es, gs)), (w.1, (w.2, w.3)), same_components cs (components_of (es ++ gs)) same)
      from _ f = absurd f
