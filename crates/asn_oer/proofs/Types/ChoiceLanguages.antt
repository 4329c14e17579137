-- CHOICE in OER is a tag, which decides, and a value of the alternative, of an addition in an open field.
use Rattle.std.proofs.Common.{◌≡◌, ◌≤◌, ◌<◌, ◌+◌, ◌-◌, ℕ, zero, suc, Bool, true, false, List, ◌++◌, MatchBool, nat_lt, refl, arith}
use Rattle.asn_values.specs.Datum.{Datum, alternative}
use Rattle.asn_values.specs.Shape.{choice, Alternatives, no_alternatives, one_of, MoreAlternatives, closed_choice, marked_choice, more_alternatives, count}
use Rattle.asn_values.specs.Fits.{Fits, FitsAlternative, FitsMoreAlternatives, FitsChoice}
use Rattle.asn_values.specs.Profile.{InProfile}
use Rattle.asn_values.specs.Parts.{AreAllOfProfile}
use Rattle.asn_values.proofs.InnerTypes.{added_alternatives_of_profile}
use Rattle.asn_rules.specs.Chunks.{Chunk, ones}
use Rattle.asn_rules.specs.Forks.{Same}
use Rattle.asn_rules.specs.Spellings.{SpelledBy}
use Rattle.asn_rules.proofs.Languages.Spellings.{same_after, same_then, same_map, map_spelled, then_spelled}
use Rattle.asn_oer.specs.Oer.{tag, an_open_field, oer, oer_alternative, oer_more}
use Rattle.asn_oer.specs.Constructed.{Values, InOpenField, OneOf, OneOfMore, Alternative, alternative_told, Choices}
use Rattle.asn_oer.proofs.Law.GoodTypes.{good, few_alternatives, tag_below}
use Rattle.asn_oer.proofs.Types.OpenTypes.{open_language}
use Rattle.asn_oer.proofs.Types.TagLanguages.{tags_spelled}

-- no value has a spelling
none_spelled : (P : Datum → Type 0) (code : Datum → List Chunk) → ((d : Datum) → P d → ⊥) → Same (λ d cs. ⊥) (SpelledBy P code)
none_spelled P code none = record { to = λ v cs h. absurd h; from = λ v cs h. none v h.fits }

-- the alternatives of the root
root_alternative : (alts : Alternatives) (t : ℕ) → Same (OneOf Values alts t) (SpelledBy (FitsAlternative alts t) (oer_alternative alts t))
root_alternative no_alternatives t = none_spelled (FitsAlternative no_alternatives t) (oer_alternative no_alternatives t) (λ d h. h)
root_alternative (one_of name shape alts) zero = record { to = λ v cs h. h; from = λ v cs h. h }
root_alternative (one_of name shape alts) (suc t) = root_alternative alts t

-- those that were added
open_alternative : (alts : Alternatives) (t : ℕ) → AreAllOfProfile alts → Same (OneOf InOpenField alts t) (SpelledBy (FitsAlternative alts t) (λ d. an_open_field (oer_alternative alts t d)))
open_alternative no_alternatives t h = none_spelled (FitsAlternative no_alternatives t) (λ d. an_open_field (oer_alternative no_alternatives t d)) (λ d h. h)
open_alternative (one_of name shape alts) zero h = open_language shape h.0
open_alternative (one_of name shape alts) (suc t) h = open_alternative alts t h.1

-- the additions, where there is a mark
added_alternative : (root : Alternatives) (more : MoreAlternatives) (t : ℕ) → InProfile (choice root more) → Same (OneOfMore more t) (SpelledBy (FitsMoreAlternatives more t) (oer_more more t))
added_alternative root closed_choice t h = none_spelled (FitsMoreAlternatives closed_choice t) (oer_more closed_choice t) (λ d h. h)
added_alternative root (marked_choice alts) t h = open_alternative alts t (added_alternatives_of_profile root alts h)

module _ (root : Alternatives) (more : MoreAlternatives) (h : InProfile (choice root more)) where
  -- the spelling after the tag
  abbrev after_tag : ℕ → Datum → List Chunk
  after_tag t d = elim (nat_lt t (count root)) [ true ↦ oer_alternative root t d | false ↦ oer_more more (t - count root) d ]

  -- the values of the alternative with the tag
  alternative_language : (t : ℕ) → Same (Alternative root more t) (SpelledBy (FitsChoice root more t) (after_tag t))
  alternative_language t = go (nat_lt t (count root)) (root_alternative root t) (added_alternative root more (t - count root) h)
    where
      go : (b : Bool) → Same (OneOf Values root t) (SpelledBy (FitsAlternative root t) (oer_alternative root t)) → Same (OneOfMore more (t - count root)) (SpelledBy (FitsMoreAlternatives more (t - count root)) (oer_more more (t - count root)))
          → Same {V = Datum} (elim b [ true ↦ OneOf Values root t | false ↦ OneOfMore more (t - count root) ]) (SpelledBy (λ d. MatchBool b (FitsAlternative root t d) (FitsMoreAlternatives more (t - count root) d)) (λ d. elim b [ true ↦ oer_alternative root t d | false ↦ oer_more more (t - count root) d ]))
      go true p q = p
      go false p q = q

  -- how many alternatives there are
  abbrev total : ℕ
  total = count root + count (more_alternatives more)

  -- at most 16384
  few : total ≤ 16384
  few = (let w = few_alternatives root more (good (choice root more) h) in omega (arith, w))

  -- CHOICE
  pub choice_language : Same (Choices root more) (Values (choice root more))
  choice_language =
      same_after (same_map (same_after (same_then (tags_spelled total few) alternative_language) then_spelled)) (map_spelled there back)
    where
      there : (p : ℕ × Datum) → (p.0 < total) × FitsChoice root more p.0 p.1
          → Fits (choice root more) (alternative_told p) × (ones (tag p.0) ++ after_tag p.0 p.1 ≡ oer (choice root more) (alternative_told p))
      there p f = (f.1, refl)

      back : (v : Datum) → Fits (choice root more) v → (p : ℕ × Datum) × ((p.0 < total) × FitsChoice root more p.0 p.1) × (v ≡ alternative_told p)
      back (alternative t d) f = ((t, d), (tag_below root more t d f, f), refl)
      back _ f = absurd f
