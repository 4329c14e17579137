-- SEQUENCE in PER is an extension bit and presence bits, the components under these bits, and the additions under the
-- extension bit, as the walk over all types puts it together.
use Rattle.std.proofs.Common.{◌≡◌, ◌<◌, ◌^◌, ℕ, zero, suc, Bool, true, false, List, [], ◌∷◌, ◌++◌, length, take, drop, Option, None, is_some, refl, sym, ap, ◌∙◌, subst, append_assoc}
use Rattle.std.proofs.lemmas.Bool.{true≢false}
use Rattle.std.proofs.lemmas.List.{take-append-drop}
use Rattle.std.proofs.Math.Seq.{take-append_seam, drop-append_seam}
use Rattle.asn_values.specs.Datum.{Datum, components, component_list, components_of}
use Rattle.asn_values.specs.Shape.{demands, sequence, Fields, no_fields, field, MoreFields, closed, marked, more_fields, is_marked}
use Rattle.asn_values.specs.Fits.{Fits, FitsEach, FitsMore}
use Rattle.asn_values.specs.Parts.{AreOfProfile}
use Rattle.asn_values.specs.Profile.{InProfile}
use Rattle.asn_values.proofs.InnerTypes.{additions_optional, additions_of_profile}
use Rattle.asn_values.proofs.Parts.{components_of_profile}
use Rattle.asn_bits.specs.Numbers.{bits}
use Rattle.asn_bits.specs.Sets.{AreBits, IsBits, weighted}
use Rattle.asn_bits.proofs.Octets.{length-digits}
use Rattle.asn_bits.proofs.Weights.{bits_only}
use Rattle.asn_rules.specs.Chunks.{Chunk, ones}
use Rattle.asn_rules.specs.Components.{any_present, presence, extension_bit}
use Rattle.asn_rules.specs.Forks.{Same}
use Rattle.asn_rules.specs.Languages.{Then}
use Rattle.asn_rules.specs.Listed.{Spelt, Listed, bitmap_length}
use Rattle.asn_rules.specs.Spellings.{SpelledBy}
use Rattle.asn_rules.proofs.Law.Entries.{each_length, none_present, presence_bits, same_components}
use Rattle.asn_rules.proofs.Components.ListedEach.{listed_is, is_listed}
use Rattle.asn_rules.proofs.Languages.Spellings.{same_after, same_then, same_map, same_spelled, map_spelled, nothing_spelled, then_spelled}
use Rattle.asn_walk.specs.Coding.{absent_entries, added, CanExtend, GoodPreamble, AdditionsOf, AddedOf, sequence_told, SequencesOf}
use Rattle.asn_walk.specs.Coding as walk
use Rattle.asn_per.specs.Additions.{AreOptional}
use Rattle.asn_per.specs.Kinds.{OpenListed}
use Rattle.asn_per.specs.Per.{per, per_each, per_open, per_additions, small_length}
use Rattle.asn_per.specs.Walk.{per_coding}
use Rattle.asn_per.proofs.Types.AdditionLanguages.{FitBits, FitSome, open_listed_spelled, some_by_bits, bits_of_some}
use Rattle.asn_per.proofs.Encodings.Bits.{digits_bits}
use Rattle.asn_per.proofs.Types.LeftOut.{none_left_out}
use Rattle.asn_per.proofs.Types.MarkedSequences.{none_of_absent, absent_fit}
use Rattle.asn_per.proofs.Types.SequenceLanguage.{per_each_is, presence_length}
use Rattle.asn_per.proofs.Write.Spellings.{component_list-of}

-- ---- the components

-- under their presence bits
listed_spelled : (fs : Fields) (bs : List ℕ) → AreOfProfile fs → AreBits bs → length bs ≡ bitmap_length fs → Same (Listed per fs bs) (SpelledBy (FitBits fs bs) (per_each fs))
listed_spelled fs bs good d l = record {
  to = λ es cs k. (let w = listed_is per fs bs good d l es cs k in record { fits = (w.fits, w.bitmap); same = w.chunks ∙ sym (per_each_is fs es) });
  from = λ es cs k. back es cs k.fits.0 k.fits.1 k.same;
}
  where
    back : (es : List (Option Datum)) (cs : List Chunk) → FitsEach fs es → presence (demands fs) es ≡ bs → cs ≡ per_each fs es → Listed per fs bs es cs
    back es cs f e s = subst (λ (r : List ℕ). Listed per fs r es cs) e (subst (λ (l : List Chunk). Listed per fs (presence (demands fs) es) es l) (sym (per_each_is fs es) ∙ sym s) (is_listed per fs es f))

-- ---- the additions

-- the open fields of those that are present
same_open_listed : (fs : Fields) (bs : List ℕ) → Same (walk.OpenListed per_coding fs bs) (OpenListed fs bs)
unfolding per_coding
same_open_listed no_fields bs = record { to = λ v cs h. h; from = λ v cs h. h }
same_open_listed (field name demand t fs) [] = record { to = λ v cs h. h; from = λ v cs h. h }
same_open_listed (field name demand t fs) (zero ∷ bs) = same_map (same_open_listed fs bs)
same_open_listed (field name demand t fs) (suc b ∷ bs) = same_map (same_then (record { to = λ v cs h. h; from = λ v cs h. h }) (λ _. same_open_listed fs bs))

-- where one is present
some_spelled : (fs : Fields) → AreOfProfile fs → AreOptional fs → Same (AdditionsOf per_coding fs) (SpelledBy (FitSome fs) (λ es. ones (small_length (length (demands fs)) ++ presence (demands fs) es) ++ per_open fs es))
unfolding per_coding
some_spelled fs good o =
    same_after (same_map (same_after (same_then (record { to = λ v cs h. h; from = λ v cs h. h }) (λ b. same_after (same_open_listed fs (bits n b)) (open_listed_spelled fs (bits n b) good o (digits_bits n b) (length-digits 2 n b)))) then_spelled)) (map_spelled there back)
  where
    n : ℕ
    n = length (demands fs)

    there : (p : ℕ × List (Option Datum)) → ((0 < p.0) × (p.0 < 2 ^ n)) × FitBits fs (bits n p.0) p.1
        → FitSome fs p.1 × (ones (small_length (length (bits n p.0)) ++ bits n p.0) ++ per_open fs p.1 ≡ ones (small_length n ++ presence (demands fs) p.1) ++ per_open fs p.1)
    there p h = (
      some_by_bits fs good o p.0 p.1 h.0 h.1,
      ap (λ (k : ℕ). ones (small_length k ++ bits n p.0) ++ per_open fs p.1) (length-digits 2 n p.0) ∙ ap (λ (l : List ℕ). ones (small_length n ++ l) ++ per_open fs p.1) (sym h.1.1),
    )

    back : (es : List (Option Datum)) → FitSome fs es → (p : ℕ × List (Option Datum)) × (((0 < p.0) × (p.0 < 2 ^ n)) × FitBits fs (bits n p.0) p.1) × (es ≡ p.1)
    back es h = (let w = bits_of_some fs good o es h in ((w.0, es), (w.1, w.2), refl))

-- the additions of a SEQUENCE without a mark are none
each_fits : (more : MoreFields) (gs : List (Option Datum)) → FitsMore more gs → FitsEach (more_fields more) gs
each_fits closed [] h = tt
each_fits closed (g ∷ gs) h = absurd h
each_fits (marked fs) gs h = h

more_fits : (more : MoreFields) (gs : List (Option Datum)) → FitsEach (more_fields more) gs → FitsMore more gs
more_fits closed [] h = tt
more_fits closed (g ∷ gs) h = absurd h
more_fits (marked fs) gs h = h

-- what stands after the components, where an addition is present and where none is
code_of_some : (more : MoreFields) (gs : List (Option Datum)) → FitsMore more gs → any_present gs ≡ true
    → ones (small_length (length (demands (more_fields more))) ++ presence (demands (more_fields more)) gs) ++ per_open (more_fields more) gs ≡ per_additions more gs
code_of_some closed [] f e = absurd (true≢false (sym e))
code_of_some closed (g ∷ gs) f e = absurd f
code_of_some (marked fs) gs f e = ap (λ (b : Bool). elim b [ true ↦ ones (small_length (length (demands fs)) ++ presence (demands fs) gs) ++ per_open fs gs | false ↦ [] ]) (sym e)

code_of_none : (more : MoreFields) (gs : List (Option Datum)) → any_present gs ≡ false → [] ≡ per_additions more gs
code_of_none closed gs e = refl
code_of_none (marked fs) gs e = ap (λ (b : Bool). elim b [ true ↦ ones (small_length (length (demands fs)) ++ presence (demands fs) gs) ++ per_open fs gs | false ↦ [] ]) (sym e)

module _ (root : Fields) (more : MoreFields) (good : InProfile (sequence root more)) where
  -- the additions are of the profile, and OPTIONAL
  added_good : AreOfProfile (more_fields more)
  added_good = go more good
    where
      go : (m : MoreFields) → InProfile (sequence root m) → AreOfProfile (more_fields m)
      go closed g = tt
      go (marked fs) g = additions_of_profile root fs g

  added_optional : AreOptional (more_fields more)
  added_optional = go more good
    where
      go : (m : MoreFields) → InProfile (sequence root m) → AreOptional (more_fields m)
      go closed g = refl
      go (marked fs) g = additions_optional root fs g

  -- entries of the additions, of which one is present where the extension bit says so
  abbrev AdditionsFit : Bool → List (Option Datum) → Type 0
  AdditionsFit b gs = FitsMore more gs × (any_present gs ≡ b)

  -- by the extension bit
  added_spelled : (b : Bool) → Same (AddedOf per_coding more b) (SpelledBy (AdditionsFit b) (per_additions more))
  added_spelled true = same_after (some_spelled (more_fields more) added_good added_optional) (same_spelled (λ gs h. (more_fits more gs h.0, h.1)) (λ gs h. (each_fits more gs h.0, h.1)) (λ gs h. code_of_some more gs (more_fits more gs h.0) h.1))
  added_spelled false = same_after (nothing_spelled absent) (same_spelled there back (λ gs h. code_of_none more gs (there gs h).1))
    where
      absent : List (Option Datum)
      absent = absent_entries (more_fields more)

      fit : FitsEach (more_fields more) absent
      fit = absent_fit (more_fields more) added_optional

      there : (gs : List (Option Datum)) → gs ≡ absent → AdditionsFit false gs
      there gs e = subst (AdditionsFit false) (sym e) (more_fits more absent fit, none_of_absent (more_fields more))

      back : (gs : List (Option Datum)) → AdditionsFit false gs → gs ≡ absent
      back gs h = none_present gs absent (each_length (more_fields more) gs (each_fits more gs h.0) ∙ sym (each_length (more_fields more) absent fit)) h.1 (none_of_absent (more_fields more))

  -- ---- the whole

  -- how many presence bits there are
  abbrev presences : ℕ
  presences = bitmap_length root

  -- the components and additions after a preamble
  abbrev After : Bool × ℕ → List (Option Datum) × List (Option Datum) → Type 0
  After p q = FitBits root (bits presences p.1) q.0 × AdditionsFit p.0 q.1

  after_spelled : (p : Bool × ℕ) → Same (Then (Listed per root (bits presences p.1)) (λ _. AddedOf per_coding more p.0)) (SpelledBy (After p) (λ q. per_each root q.0 ++ per_additions more q.1))
  after_spelled p = same_after (same_then (listed_spelled root (bits presences p.1) (components_of_profile root more good) (digits_bits presences p.1) (length-digits 2 presences p.1)) (λ _. added_spelled p.0)) then_spelled

  -- there is an extension bit where there is a mark
  mark_is : is_some (added more) ≡ is_marked more
  mark_is = go more
    where
      go : (m : MoreFields) → is_some (added m) ≡ is_marked m
      go closed = refl
      go (marked fs) = refl

  -- an addition that is present is one of some
  can_extend : (gs : List (Option Datum)) → FitsMore more gs → any_present gs ≡ true → CanExtend (added more)
  can_extend gs f e = go more gs f e
    where
      go : (m : MoreFields) (gs : List (Option Datum)) → FitsMore m gs → any_present gs ≡ true → CanExtend (added m)
      go closed [] f e = absurd (true≢false (sym e))
      go closed (g ∷ gs) f e = absurd f
      go (marked no_fields) [] f e = absurd (true≢false (sym e))
      go (marked no_fields) (g ∷ gs) f e = absurd f
      go (marked (field name demand t fs)) gs f e = tt

  -- the entries of a value, and its spelling by them
  abbrev EntriesFit : List (Option Datum) → Type 0
  EntriesFit es = FitsEach root (take (length (demands root)) es) × FitsMore more (drop (length (demands root)) es)

  abbrev entries_code : List (Option Datum) → List (Option Datum) → List Chunk
  entries_code root_entries added_entries = ones (extension_bit (is_marked more) (any_present added_entries) ++ presence (demands root) root_entries) ++ per_each root root_entries ++ per_additions more added_entries

  abbrev whole_code : List (Option Datum) → List Chunk
  whole_code es = entries_code (take (length (demands root)) es) (drop (length (demands root)) es)

  -- a preamble and what stands after it are a value's
  there : (p : Bool × ℕ) (es gs : List (Option Datum)) → FitBits root (bits presences p.1) es → AdditionsFit p.0 gs
      → EntriesFit (component_list (components_of (es ++ gs))) × (ones (extension_bit (is_some (added more)) p.0 ++ bits presences p.1) ++ (per_each root es ++ per_additions more gs) ≡ whole_code (component_list (components_of (es ++ gs))))
  there p es gs u a =
      let n : length es ≡ length (demands root) = each_length root es u.0 in
      let first : take (length (demands root)) (es ++ gs) ≡ es = ap (λ (i : ℕ). take i (es ++ gs)) (sym n) ∙ take-append_seam es gs in
      let second : drop (length (demands root)) (es ++ gs) ≡ gs = ap (λ (i : ℕ). drop i (es ++ gs)) (sym n) ∙ drop-append_seam es gs in
      let front : extension_bit (is_some (added more)) p.0 ++ bits presences p.1 ≡ extension_bit (is_marked more) (any_present gs) ++ presence (demands root) es =
      ap (λ (b : Bool). extension_bit b p.0 ++ bits presences p.1) mark_is ∙ ap (λ (b : Bool). extension_bit (is_marked more) b ++ bits presences p.1) (sym a.1) ∙ ap (λ (l : List ℕ). extension_bit (is_marked more) (any_present gs) ++ l) (sym u.1) in
      let code : ones (extension_bit (is_some (added more)) p.0 ++ bits presences p.1) ++ (per_each root es ++ per_additions more gs) ≡ entries_code es gs =
      sym (append_assoc (ones (extension_bit (is_some (added more)) p.0 ++ bits presences p.1)) (per_each root es) (per_additions more gs)) ∙ ap (λ (l : List ℕ). ones l ++ per_each root es ++ per_additions more gs) front in
      let all : es ++ gs ≡ component_list (components_of (es ++ gs)) = sym (component_list-of (es ++ gs)) in
      let fits : EntriesFit (es ++ gs) = (subst (FitsEach root) (sym first) u.0, subst (FitsMore more) (sym second) a.0) in
      let whole : entries_code es gs ≡ whole_code (es ++ gs) = ap (λ (x : List (Option Datum)). entries_code x gs) (sym first) ∙ ap (λ (x : List (Option Datum)). entries_code (take (length (demands root)) (es ++ gs)) x) (sym second) in
      (subst EntriesFit all fits, code ∙ whole ∙ ap whole_code all)

  -- and each value has them
  back : (es gs : List (Option Datum)) → FitsEach root es → FitsMore more gs → (p : Bool × ℕ) × GoodPreamble presences (added more) p × FitBits root (bits presences p.1) es × AdditionsFit p.0 gs
  back es gs f g =
      let l = presence (demands root) es in
      let w = weighted 2 l in
      let is : IsBits presences w l = record { digits = presence_bits (demands root) es; count = presence_length root es f; sum = refl } in
      let o = bits_only presences w l is in
      ((any_present gs, w), (o.0, can_extend gs g), (f, o.1), (g, refl))

  -- SEQUENCE
  pub walk_sequences : Same (SequencesOf per_coding root more) (Spelt per_coding.code None (sequence root more))
  unfolding per_coding
  walk_sequences =
      same_after (same_map (same_after (same_then (record { to = λ v cs h. h; from = λ v cs h. h }) after_spelled) then_spelled))
      (same_after (map_spelled (λ p f. there p.0 p.1.0 p.1.1 f.1.0 f.1.1) from) (none_left_out (sequence root more)))
    where
      from : (v : Datum) → Fits (sequence root more) v → (p : (Bool × ℕ) × (List (Option Datum) × List (Option Datum))) × (GoodPreamble presences (added more) p.0 × After p.0 p.1) × (v ≡ sequence_told p)
      from (components cs) f =
          let k = length (demands root) in
          let es = take k (component_list cs) in
          let gs = drop k (component_list cs) in
          let w = back es gs f.0 f.1 in
          let same : component_list cs ≡ component_list (components_of (es ++ gs)) = sym (take-append-drop k (component_list cs)) ∙ sym (component_list-of (es ++ gs)) in
          ((w.0, (es, gs)), (w.1, (w.2, w.3)), same_components cs (components_of (es ++ gs)) same)
      from _ f = absurd f
