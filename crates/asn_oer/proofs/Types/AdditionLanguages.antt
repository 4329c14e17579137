-- The extension additions of a SEQUENCE in OER: nothing, or a bitmap of them and open fields.
use Rattle.std.proofs.Common.{◌≡◌, ◌≤◌, ◌<◌, ◌^◌, ℕ, zero, suc, Bool, true, false, List, [], ◌∷◌, ◌++◌, length, Option, Some, None, refl, sym, ap, ◌∙◌, subst, arith}
use Rattle.std.specs.Prelude.{replicate}
use Rattle.std.proofs.lemmas.Bool.{true≢false}
use Rattle.std.proofs.lemmas.Nat.{pow_pos}
use Rattle.std.specs.List.{list_all}
use Rattle.asn_values.specs.Datum.{Datum}
use Rattle.asn_values.specs.Shape.{must, optional, default, demands, sequence, Fields, no_fields, field, MoreFields, closed, marked}
use Rattle.asn_values.specs.Fits.{FitsEach, FitsMore}
use Rattle.asn_values.specs.Profile.{InProfile, is_optional}
use Rattle.asn_values.proofs.InnerTypes.{additions_optional, additions_of_profile}
use Rattle.asn_bits.specs.Numbers.{bits}
use Rattle.asn_bits.proofs.Octets.{length-digits}
use Rattle.asn_rules.specs.Chunks.{ones}
use Rattle.asn_rules.specs.Components.{any_present, presence}
use Rattle.asn_bits.specs.Sets.{weighted, IsBits}
use Rattle.asn_rules.specs.Forks.{Same}
use Rattle.asn_rules.specs.Spellings.{SpelledBy}
use Rattle.asn_bits.proofs.Weights.{bits_are, bits_only, are_digits}
use Rattle.asn_rules.proofs.Law.Entries.{each_length, none_present, presence_bits}
use Rattle.asn_rules.proofs.Languages.Spellings.{same_after, same_then, same_map, same_spelled, map_spelled, nothing_spelled, then_spelled}
use Rattle.asn_oer.specs.Oer.{variable_bits, oer_open, oer_additions}
use Rattle.asn_oer.specs.Preambles.{SomeBits}
use Rattle.asn_oer.specs.Sequences.{OpenListed, Additions}
use Rattle.asn_oer.proofs.Types.ComponentLanguages.{Under, open_listed_language}
use Rattle.asn_oer.proofs.Types.FilledLanguages.{bitmap_language}
use Rattle.asn_oer.proofs.Law.GoodTypes.{good}
use Rattle.asn_oer.proofs.Encodings.SpeltTypes.{few_additions}

-- an extension bit that is not 0
abbrev pub is_extended : ℕ → Bool
is_extended zero = false
is_extended (suc e) = true

-- entries of the additions, of which some is present where the extension bit says so
abbrev pub AdditionsFit : MoreFields → ℕ → List (Option Datum) → Type 0
AdditionsFit more e gs = FitsMore more gs × (any_present gs ≡ is_extended e)

-- ---- as many as there are

-- where each is OPTIONAL, none has to be present
absences : (fs : Fields) → list_all is_optional (demands fs) ≡ true → FitsEach fs (replicate (length (demands fs)) None) × (any_present (replicate (length (demands fs)) None) ≡ false)
absences no_fields o = (tt, refl)
absences (field name must t fs) o = absurd (true≢false (sym o))
absences (field name (default d) t fs) o = absurd (true≢false (sym o))
absences (field name optional t fs) o = (let w = absences fs o in ((tt, w.0), w.1))

-- each has a bit
pub length-bitmap : (fs : Fields) (gs : List (Option Datum)) → list_all is_optional (demands fs) ≡ true → FitsEach fs gs → length (presence (demands fs) gs) ≡ length (demands fs)
length-bitmap no_fields gs o f = refl
length-bitmap (field name demand t fs) [] o f = absurd f
length-bitmap (field name must t fs) (g ∷ gs) o f = absurd (true≢false (sym o))
length-bitmap (field name (default d) t fs) (g ∷ gs) o f = absurd (true≢false (sym o))
length-bitmap (field name optional t fs) (g ∷ gs) o f = ap suc (length-bitmap fs gs o f.1)

-- the bitmap stands for 0 where none is present
none_weighs : (fs : Fields) (gs : List (Option Datum)) → list_all is_optional (demands fs) ≡ true → FitsEach fs gs → any_present gs ≡ false → weighted 2 (presence (demands fs) gs) ≡ 0
none_weighs no_fields gs o f a = refl
none_weighs (field name demand t fs) [] o f a = absurd f
none_weighs (field name must t fs) (g ∷ gs) o f a = absurd (true≢false (sym o))
none_weighs (field name (default d) t fs) (g ∷ gs) o f a = absurd (true≢false (sym o))
none_weighs (field name optional t fs) (None ∷ gs) o f a = (let w = none_weighs fs gs o f.1 a in omega arith)
none_weighs (field name optional t fs) (Some d ∷ gs) o f a = absurd (true≢false a)

-- and for more where some is
some_weigh : (fs : Fields) (gs : List (Option Datum)) → list_all is_optional (demands fs) ≡ true → FitsEach fs gs → any_present gs ≡ true → 1 ≤ weighted 2 (presence (demands fs) gs)
some_weigh no_fields [] o f a = absurd (true≢false (sym a))
some_weigh no_fields (g ∷ gs) o f a = absurd f
some_weigh (field name demand t fs) [] o f a = absurd f
some_weigh (field name must t fs) (g ∷ gs) o f a = absurd (true≢false (sym o))
some_weigh (field name (default d) t fs) (g ∷ gs) o f a = absurd (true≢false (sym o))
some_weigh (field name optional t fs) (None ∷ gs) o f a = (let w = some_weigh fs gs o f.1 a in omega arith)
some_weigh (field name optional t fs) (Some d ∷ gs) o f a = (let some : 0 < 2 ^ length (presence (demands fs) gs) = pow_pos (length (presence (demands fs) gs)) in omega arith)

-- ---- without a mark

-- there are no additions, whatever the extension bit
closed_language : (e : ℕ) → Same (Additions closed e) (SpelledBy (AdditionsFit closed e) (oer_additions closed))
closed_language zero = same_after (nothing_spelled []) (same_spelled there back (λ gs e. refl))
  where
    there : (gs : List (Option Datum)) → gs ≡ [] → AdditionsFit closed 0 gs
    there gs e = subst (AdditionsFit closed 0) (sym e) (tt, refl)

    back : (gs : List (Option Datum)) → AdditionsFit closed 0 gs → gs ≡ []
    back [] h = refl
    back (g ∷ gs) h = absurd h.0
closed_language (suc e) = record { to = λ gs cs h. absurd h; from = λ gs cs h. none gs h.fits }
  where
    none : (gs : List (Option Datum)) → AdditionsFit closed (suc e) gs → ⊥
    none [] h = true≢false (sym h.1)
    none (g ∷ gs) h = h.0

-- ---- with a mark

module _ (root fs : Fields) (h : InProfile (sequence root (marked fs))) where
  -- each addition is OPTIONAL
  all_optional : list_all is_optional (demands fs) ≡ true
  all_optional = additions_optional root fs h

  -- how many there are
  abbrev count : ℕ
  count = length (demands fs)

  -- none is present
  no_additions : Same (Additions (marked fs) 0) (SpelledBy (AdditionsFit (marked fs) 0) (oer_additions (marked fs)))
  no_additions = same_after (nothing_spelled (replicate count None)) (same_spelled there back code)
    where
      there : (gs : List (Option Datum)) → gs ≡ replicate count None → AdditionsFit (marked fs) 0 gs
      there gs e = subst (AdditionsFit (marked fs) 0) (sym e) (absences fs all_optional)

      back : (gs : List (Option Datum)) → AdditionsFit (marked fs) 0 gs → gs ≡ replicate count None
      back gs f =
          let w = absences fs all_optional in
          none_present gs (replicate count None) (each_length fs gs f.0 ∙ sym (each_length fs (replicate count None) w.0)) f.1 w.1

      code : (gs : List (Option Datum)) → gs ≡ replicate count None → [] ≡ oer_additions (marked fs) gs
      code gs e =
          let none : any_present gs ≡ false = (there gs e).1 in
          sym (ap (λ (b : Bool). elim b [ true ↦ ones (variable_bits (presence (demands fs) gs)) ++ oer_open fs gs | false ↦ [] ]) none)

  -- the bits of a number
  listed : (m : ℕ) → Same (OpenListed fs (bits count m)) (SpelledBy (Under fs (bits count m)) (oer_open fs))
  listed m = open_listed_language fs (bits count m) (additions_of_profile root fs h) all_optional (are_digits 2 count m (omega arith)) (length-digits 2 count m)

  -- some are, as the bitmap says
  some_additions : (e : ℕ) → Same (Additions (marked fs) (suc e)) (SpelledBy (AdditionsFit (marked fs) (suc e)) (oer_additions (marked fs)))
  some_additions e = same_after (same_map (same_after (same_then (bitmap_language count (few_additions root fs (good (sequence root (marked fs)) h))) listed) then_spelled)) (map_spelled there back)
    where
      spelt : (gs : List (Option Datum)) → any_present gs ≡ true → ones (variable_bits (presence (demands fs) gs)) ++ oer_open fs gs ≡ oer_additions (marked fs) gs
      spelt gs a = sym (ap (λ (b : Bool). elim b [ true ↦ ones (variable_bits (presence (demands fs) gs)) ++ oer_open fs gs | false ↦ [] ]) a)

      present : (m : ℕ) (gs : List (Option Datum)) → SomeBits count m → Under fs (bits count m) gs → any_present gs ≡ true
      present m gs s u = go (any_present gs) refl
        where
          go : (b : Bool) → any_present gs ≡ b → b ≡ true
          go true a = refl
          go false a =
              let w = none_weighs fs gs all_optional u.0 a in
              let is : IsBits count m (bits count m) = bits_are count m s.1 in
              let same : weighted 2 (presence (demands fs) gs) ≡ m = ap (λ (l : List ℕ). weighted 2 l) u.1 ∙ is.sum in
              absurd (omega (arith, s.0, w, same))

      there : (p : ℕ × List (Option Datum)) → SomeBits count p.0 × Under fs (bits count p.0) p.1
          → AdditionsFit (marked fs) (suc e) p.1 × (ones (variable_bits (bits count p.0)) ++ oer_open fs p.1 ≡ oer_additions (marked fs) p.1)
      there p s =
          let a = present p.0 p.1 s.0 s.1 in
          ((s.1.0, a), ap (λ (l : List ℕ). ones (variable_bits l) ++ oer_open fs p.1) (sym s.1.1) ∙ spelt p.1 a)

      back : (gs : List (Option Datum)) → AdditionsFit (marked fs) (suc e) gs → (p : ℕ × List (Option Datum)) × (SomeBits count p.0 × Under fs (bits count p.0) p.1) × (gs ≡ p.1)
      back gs f =
          let l = presence (demands fs) gs in
          let m = weighted 2 l in
          let is : IsBits count m l = record { digits = presence_bits (demands fs) gs; count = length-bitmap fs gs all_optional f.0; sum = refl } in
          let w = bits_only count m l is in
          ((m, gs), ((some_weigh fs gs all_optional f.0 f.1, w.0), (f.0, w.1)), refl)

-- the additions under the extension bit
pub additions_language : (root : Fields) (more : MoreFields) → InProfile (sequence root more) → (e : ℕ) → Same (Additions more e) (SpelledBy (AdditionsFit more e) (oer_additions more))
additions_language root closed h e = closed_language e
additions_language root (marked fs) h zero = no_additions root fs h
additions_language root (marked fs) h (suc e) = some_additions root fs h e
