-- CHOICE in OER is a tag and a value of its alternative, as the walk over all types puts it together.
use Rattle.std.proofs.Common.{◌≡◌, ◌≤◌, ◌<◌, ◌+◌, ◌-◌, ◌⊎◌, inl, inr, ⊎_elim, ℕ, zero, suc, Bool, true, false, nat_lt, MatchBool, List, ◌++◌, None, refl, sym, ap, ◌∙◌, subst, arith}
use Rattle.std.proofs.lemmas.Bool.{cases_lt, lt-ltb, le-ltb}
use Rattle.asn_values.specs.Datum.{Datum, alternative}
use Rattle.asn_values.specs.Shape.{choice, Alternatives, no_alternatives, one_of, MoreAlternatives, closed_choice, marked_choice, more_alternatives, count}
use Rattle.asn_values.specs.Fits.{Fits, FitsAlternative, FitsMoreAlternatives}
use Rattle.asn_values.specs.Parts.{AreAllOfProfile}
use Rattle.asn_values.specs.Profile.{InProfile}
use Rattle.asn_values.proofs.InnerTypes.{added_alternatives_of_profile}
use Rattle.asn_rules.specs.Chunks.{Chunk, ones}
use Rattle.asn_rules.specs.Forks.{Same}
use Rattle.asn_rules.specs.Listed.{Spelt}
use Rattle.asn_rules.specs.Spellings.{SpelledBy}
use Rattle.asn_rules.proofs.Languages.Spellings.{same_after, same_map, same_then, map_spelled, then_spelled}
use Rattle.asn_walk.specs.Coding.{added_alternatives, IsIndexWithin, OpenOf, ChosenOf, ChosenBy, chosen_value, ChoicesOf}
use Rattle.asn_oer.specs.Oer.{oer, tag, an_open_field, oer_alternative, oer_more}
use Rattle.asn_oer.specs.Walk.{oer_coding, tag_of}
use Rattle.asn_oer.proofs.Types.LeftOut.{none_left_out}
use Rattle.asn_oer.proofs.Types.OpenTypes.{open_language}

-- the values of an alternative
chosen_root : (alts : Alternatives) (i : ℕ) → Same (ChosenOf (λ t. Spelt oer None t) alts i) (SpelledBy (FitsAlternative alts i) (oer_alternative alts i))
chosen_root no_alternatives i = record { to = λ v cs h. absurd h; from = λ v cs h. h.fits }
chosen_root (one_of name t alts) zero = record { to = (none_left_out t).from; from = (none_left_out t).to }
chosen_root (one_of name t alts) (suc i) = chosen_root alts i

-- in an open field
chosen_open : (alts : Alternatives) (i : ℕ) → AreAllOfProfile alts → Same (ChosenOf (λ t. OpenOf oer_coding t) alts i) (SpelledBy (FitsAlternative alts i) (λ d. an_open_field (oer_alternative alts i d)))
unfolding oer_coding
chosen_open no_alternatives i g = record { to = λ v cs h. absurd h; from = λ v cs h. h.fits }
chosen_open (one_of name t alts) zero g = open_language t g.0
chosen_open (one_of name t alts) (suc i) g = chosen_open alts i g.1

module _ (root : Alternatives) (more : MoreAlternatives) (good : InProfile (choice root more)) where
  added_good : AreAllOfProfile (more_alternatives more)
  added_good = go more good
    where
      go : (m : MoreAlternatives) → InProfile (choice root m) → AreAllOfProfile (more_alternatives m)
      go closed_choice g = tt
      go (marked_choice alts) g = added_alternatives_of_profile root alts g

  -- the value after an index, and how it is spelt
  abbrev FitsChosen : ℕ ⊎ ℕ → Datum → Type 0
  FitsChosen (inl i) d = FitsAlternative root i d
  FitsChosen (inr k) d = FitsAlternative (more_alternatives more) k d

  abbrev chosen_code : ℕ ⊎ ℕ → Datum → List Chunk
  chosen_code (inl i) d = oer_alternative root i d
  chosen_code (inr k) d = an_open_field (oer_alternative (more_alternatives more) k d)

  chosen_spelled : (i : ℕ ⊎ ℕ) → Same (ChosenBy oer_coding root more i) (SpelledBy (FitsChosen i) (chosen_code i))
  unfolding oer_coding
  chosen_spelled (inl i) = chosen_root root i
  chosen_spelled (inr k) = chosen_open (more_alternatives more) k added_good

  -- the value of an index and a value
  fits_there : (i : ℕ ⊎ ℕ) (d : Datum) → IsIndexWithin (count root) (added_alternatives more) i → FitsChosen i d
      → Fits (choice root more) (chosen_value root (i, d)) × (ones (tag (tag_of (count root) i)) ++ chosen_code i d ≡ oer (choice root more) (chosen_value root (i, d)))
  fits_there (inl n) d h f =
      let e : nat_lt n (count root) ≡ true = lt-ltb n (count root) (below more h) in (
        subst (λ (b : Bool). MatchBool b (FitsAlternative root n d) (FitsMoreAlternatives more (n - count root) d)) (sym e) f,
        ap (λ (b : Bool). ones (tag n) ++ elim b [ true ↦ oer_alternative root n d | false ↦ oer_more more (n - count root) d ]) (sym e),
      )
    where
      below : (m : MoreAlternatives) → IsIndexWithin (count root) (added_alternatives m) (inl n) → n < count root
      below closed_choice h = h
      below (marked_choice alts) h = h
  fits_there (inr k) d h f =
      let t = count root + k in
      let e : nat_lt t (count root) ≡ false = le-ltb t (count root) (omega arith) in
      let same : t - count root ≡ k = omega arith in
      let w = added more h f in (
        subst (λ (b : Bool). MatchBool b (FitsAlternative root t d) (FitsMoreAlternatives more (t - count root) d)) (sym e) (subst (λ (i : ℕ). FitsMoreAlternatives more i d) (sym same) w.0),
        ap (λ (l : List Chunk). ones (tag t) ++ l) w.1 ∙ ap (λ (i : ℕ). ones (tag t) ++ oer_more more i d) (sym same)
            ∙ ap (λ (b : Bool). ones (tag t) ++ elim b [ true ↦ oer_alternative root t d | false ↦ oer_more more (t - count root) d ]) (sym e),
      )
    where
      added : (m : MoreAlternatives) → IsIndexWithin (count root) (added_alternatives m) (inr k) → FitsAlternative (more_alternatives m) k d → FitsMoreAlternatives m k d × (an_open_field (oer_alternative (more_alternatives m) k d) ≡ oer_more m k d)
      added closed_choice h f = absurd h
      added (marked_choice alts) h f = (f, refl)

  -- and each value has them
  fits_back : (v : Datum) → Fits (choice root more) v → (p : (ℕ ⊎ ℕ) × Datum) × (IsIndexWithin (count root) (added_alternatives more) p.0 × FitsChosen p.0 p.1) × (v ≡ chosen_value root p)
  fits_back (alternative t d) f = ⊎_elim in_root in_additions (cases_lt t (count root))
    where
      place : (alts : Alternatives) (i : ℕ) → FitsAlternative alts i d → i < count alts
      place no_alternatives i h = absurd h
      place (one_of name s alts) zero h = omega arith
      place (one_of name s alts) (suc i) h = (let w = place alts i h in omega (arith, w))

      first : (m : MoreAlternatives) (n : ℕ) → n < count root → IsIndexWithin (count root) (added_alternatives m) (inl n)
      first closed_choice n h = h
      first (marked_choice alts) n h = h

      second : (m : MoreAlternatives) (k : ℕ) → FitsMoreAlternatives m k d → IsIndexWithin (count root) (added_alternatives m) (inr k) × FitsAlternative (more_alternatives m) k d
      second closed_choice k h = absurd h
      second (marked_choice alts) k h = (place alts k h, h)

      in_root : t < count root → (p : (ℕ ⊎ ℕ) × Datum) × (IsIndexWithin (count root) (added_alternatives more) p.0 × FitsChosen p.0 p.1) × (alternative t d ≡ chosen_value root p)
      in_root l = ((inl t, d), (first more t l, subst (λ (b : Bool). MatchBool b (FitsAlternative root t d) (FitsMoreAlternatives more (t - count root) d)) (lt-ltb t (count root) l) f), refl)

      in_additions : count root ≤ t → (p : (ℕ ⊎ ℕ) × Datum) × (IsIndexWithin (count root) (added_alternatives more) p.0 × FitsChosen p.0 p.1) × (alternative t d ≡ chosen_value root p)
      in_additions l =
          let w = second more (t - count root) (subst (λ (b : Bool). MatchBool b (FitsAlternative root t d) (FitsMoreAlternatives more (t - count root) d)) (le-ltb t (count root) l) f) in
          let e : t ≡ count root + (t - count root) = omega (arith, l) in
          ((inr (t - count root), d), w, ap (λ (i : ℕ). alternative i d) e)
  fits_back _ f = absurd f

  -- CHOICE
  pub walk_choices : Same (ChoicesOf oer_coding root more) (Spelt oer_coding.code None (choice root more))
  unfolding oer_coding
  walk_choices =
      same_after (same_map (same_after (same_then (record { to = λ v cs h. h; from = λ v cs h. h }) chosen_spelled) then_spelled))
      (same_after (map_spelled (λ p h. fits_there p.0 p.1 h.0 h.1) fits_back) (none_left_out (choice root more)))
