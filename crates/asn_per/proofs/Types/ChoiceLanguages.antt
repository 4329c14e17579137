-- CHOICE in PER is put together from an index and a value of the alternative, in an open field for an addition.
use Rattle.std.proofs.Common.{◌≡◌, ◌≤◌, ◌<◌, ◌+◌, ◌-◌, ◌⊎◌, inl, inr, ℕ, zero, suc, Bool, true, false, ◌||◌, List, [], ◌++◌, MatchBool, nat_lt, refl, sym, ap, subst, arith}
use Rattle.std.proofs.lemmas.Bool.{ltb-true, ltb-false, lt-ltb, le-ltb}
use Rattle.asn_values.specs.Datum.{Datum, alternative}
use Rattle.asn_values.specs.Shape.{Alternatives, no_alternatives, one_of, MoreAlternatives, closed_choice, marked_choice, more_alternatives, choice, count}
use Rattle.asn_values.specs.Fits.{Fits, FitsAlternative}
use Rattle.asn_values.specs.Profile.{InProfile, TooMany, too_many_here, most_nodes, most_alternatives, somewhere, some_alternative, some_more}
use Rattle.asn_values.specs.Measures.{nodes}
use Rattle.asn_values.specs.Parts.{AreAllOfProfile}
use Rattle.asn_values.proofs.InnerTypes.{added_alternatives_of_profile}
use Rattle.asn_values.proofs.Parts.{left_false}
use Rattle.asn_rules.specs.Chunks.{Chunk, ones}
use Rattle.asn_rules.specs.Forks.{Same}
use Rattle.asn_rules.specs.Spellings.{SpelledBy, FitsEither, either_code}
use Rattle.asn_rules.proofs.Languages.Spellings.{same_after, same_then, same_map, same_fork, same_spelled, then_spelled, map_spelled, fork_spelled}
use Rattle.asn_per.specs.Per.{per, per_alternative, constrained, small, an_open_field}
use Rattle.asn_per.specs.Kinds.{Values, of_either, Chosen, OpenChosen, RootChoices, AddedChoices, Choices}
use Rattle.asn_per.proofs.Law.Choices.{choice_chunks}
use Rattle.asn_per.proofs.Types.BooleanAndNull.{below_spelled}
use Rattle.asn_per.proofs.Types.SmallNumbers.{small_spelled}
use Rattle.asn_per.proofs.Types.OpenFieldLanguages.{open_values_spelled}

-- ---- the value

-- nothing is spelt where nothing fits
none_spelled : {V : Type 0} {code : V → List Chunk} → Same (λ (v : V) (cs : List Chunk). ⊥) (SpelledBy (λ v. ⊥) code)
none_spelled = record { to = λ v cs h. absurd h; from = λ v cs h. absurd h.fits }

-- the values of an alternative
chosen_spelled : (alts : Alternatives) (i : ℕ) → Same (Chosen alts i) (SpelledBy (FitsAlternative alts i) (per_alternative alts i))
chosen_spelled no_alternatives i = none_spelled
chosen_spelled (one_of name t alts) zero = record { to = λ v cs h. h; from = λ v cs h. h }
chosen_spelled (one_of name t alts) (suc i) = chosen_spelled alts i

-- in open fields
open_chosen_spelled : (alts : Alternatives) (i : ℕ) → AreAllOfProfile alts → Same (OpenChosen alts i) (SpelledBy (FitsAlternative alts i) (λ v. an_open_field (per_alternative alts i v)))
open_chosen_spelled no_alternatives i good = none_spelled
open_chosen_spelled (one_of name t alts) zero good = open_values_spelled t good.0
open_chosen_spelled (one_of name t alts) (suc i) good = open_chosen_spelled alts i good.1

-- ---- the root

-- the alternatives of the root
abbrev IsOfRoot : Alternatives → Datum → Type 0
IsOfRoot root (alternative i v) = (i < count root) × FitsAlternative root i v
IsOfRoot root _ = ⊥

-- their spelling after the extension bit
abbrev root_code : Alternatives → Datum → List Chunk
root_code root (alternative i v) = ones (constrained (count root) i) ++ per_alternative root i v
root_code root _ = []

-- an index and a value are an alternative of the root
root_spelled : (root : Alternatives) → Same (RootChoices root) (SpelledBy (IsOfRoot root) (root_code root))
root_spelled root = same_after (same_map (same_after (same_then (below_spelled (count root)) (λ i. chosen_spelled root i)) then_spelled)) (map_spelled (λ p h. (h, refl)) back)
  where
    back : (v : Datum) → IsOfRoot root v → (p : ℕ × Datum) × ((p.0 < count root) × FitsAlternative root p.0 p.1) × (v ≡ alternative p.0 p.1)
    back (alternative i v) h = ((i, v), h, refl)
    back _ h = absurd h

-- ---- the additions

-- the alternatives after the mark
abbrev IsAdded : Alternatives → Alternatives → Datum → Type 0
IsAdded root more (alternative i v) = (count root ≤ i) × (i - count root < count more) × FitsAlternative more (i - count root) v
IsAdded root more _ = ⊥

-- their spelling after the extension bit
abbrev added_code : Alternatives → Alternatives → Datum → List Chunk
added_code root more (alternative i v) = ones (small (i - count root)) ++ an_open_field (per_alternative more (i - count root) v)
added_code root more _ = []

-- a small index and an open field are an addition
added_spelled : (root more : Alternatives) → count more ≤ 256 → AreAllOfProfile more → Same (AddedChoices (count root) more) (SpelledBy (IsAdded root more) (added_code root more))
added_spelled root more few good = same_after (same_map (same_after (same_then (small_spelled (count more) few) (λ i. open_chosen_spelled more i good)) then_spelled)) (map_spelled there back)
  where
    there : (p : ℕ × Datum) → (p.0 < count more) × FitsAlternative more p.0 p.1
        → IsAdded root more (alternative (count root + p.0) p.1) × (ones (small p.0) ++ an_open_field (per_alternative more p.0 p.1) ≡ added_code root more (alternative (count root + p.0) p.1))
    there p h =
        let e : p.0 ≡ count root + p.0 - count root = omega arith in
        ((omega arith, omega (arith, h.0), subst (λ (i : ℕ). FitsAlternative more i p.1) e h.1), ap (λ (i : ℕ). ones (small i) ++ an_open_field (per_alternative more i p.1)) e)

    back : (v : Datum) → IsAdded root more v → (p : ℕ × Datum) × ((p.0 < count more) × FitsAlternative more p.0 p.1) × (v ≡ alternative (count root + p.0) p.1)
    back (alternative i v) h = let e : i ≡ count root + (i - count root) = omega (arith, h.0) in ((i - count root, v), (h.1, h.2), ap (λ (j : ℕ). alternative j v) e)
    back _ h = absurd h

-- ---- both

-- an alternative has an index below their count
place_inside : (alts : Alternatives) (i : ℕ) (v : Datum) → FitsAlternative alts i v → i < count alts
place_inside no_alternatives i v h = absurd h
place_inside (one_of name t alts) zero v h = omega arith
place_inside (one_of name t alts) (suc i) v h = omega (arith, place_inside alts i v h)

-- alternatives that are of the root or not
either_there : (root more : Alternatives) (w : Datum ⊎ Datum) → FitsEither (IsOfRoot root) (IsAdded root more) w
    → Fits (choice root (marked_choice more)) (of_either w) × (either_code (root_code root) (added_code root more) w ≡ per (choice root (marked_choice more)) (of_either w))
either_there root more (inl (alternative i v)) h = (rw (lt-ltb i (count root) h.0) h.1, ap (λ (b : Bool). choice_chunks root (marked_choice more) b i v) (sym (lt-ltb i (count root) h.0)))
either_there root more (inr (alternative i v)) h = (rw (le-ltb i (count root) h.0) h.2, ap (λ (b : Bool). choice_chunks root (marked_choice more) b i v) (sym (le-ltb i (count root) h.0)))
either_there root more (inl _) h = absurd h
either_there root more (inr _) h = absurd h

-- each value is one of the two
either_back : (root more : Alternatives) (v : Datum) → Fits (choice root (marked_choice more)) v → (w : Datum ⊎ Datum) × FitsEither (IsOfRoot root) (IsAdded root more) w × (v ≡ of_either w)
either_back root more (alternative i v) h = go (nat_lt i (count root)) refl h
  where
    go : (b : Bool) → nat_lt i (count root) ≡ b → MatchBool b (FitsAlternative root i v) (FitsAlternative more (i - count root) v)
        → (w : Datum ⊎ Datum) × FitsEither (IsOfRoot root) (IsAdded root more) w × (alternative i v ≡ of_either w)
    go true e f = let l = ltb-true i (count root) e in (inl (alternative i v), (l, f), refl)
    go false e f = let l = ltb-false i (count root) e in (inr (alternative i v), (l, place_inside more (i - count root) v f, f), refl)
either_back root more _ h = absurd h

-- without a mark those of the root are values
closed_there : (root : Alternatives) (v : Datum) → IsOfRoot root v → Fits (choice root closed_choice) v × (root_code root v ≡ per (choice root closed_choice) v)
closed_there root (alternative i v) h = (rw (lt-ltb i (count root) h.0) h.1, ap (λ (b : Bool). choice_chunks root closed_choice b i v) (sym (lt-ltb i (count root) h.0)))
closed_there root _ h = absurd h

-- and there are no others
closed_is : (root : Alternatives) (v : Datum) → Fits (choice root closed_choice) v → IsOfRoot root v
closed_is root (alternative i v) h = go (nat_lt i (count root)) refl h
  where
    go : (b : Bool) → nat_lt i (count root) ≡ b → MatchBool b (FitsAlternative root i v) ⊥ → IsOfRoot root (alternative i v)
    go true e f = let l = ltb-true i (count root) e in (l, f)
    go false e f = absurd f
closed_is root _ h = absurd h

-- a CHOICE has few alternatives
pub few_choices : (root : Alternatives) (more : MoreAlternatives) → InProfile (choice root more) → count root + count (more_alternatives more) ≤ most_alternatives
few_choices root more good =
    let all : somewhere too_many_here (choice root more) ≡ false = left_false (somewhere too_many_here (choice root more)) (nat_lt most_nodes (nodes (choice root more))) (good TooMany) in
    let here : nat_lt most_alternatives (count root + count (more_alternatives more)) ≡ false = left_false (nat_lt most_alternatives (count root + count (more_alternatives more))) (some_alternative too_many_here root || some_more too_many_here more) all in
    ltb-false most_alternatives (count root + count (more_alternatives more)) here

-- CHOICE
pub choices_compose : (root : Alternatives) (more : MoreAlternatives) → InProfile (choice root more) → Same (Choices root more) (Values (choice root more))
choices_compose root closed_choice good = same_after (root_spelled root) (same_spelled (λ v h. (closed_there root v h).0) (closed_is root) (λ v h. (closed_there root v h).1))
choices_compose root (marked_choice more) good =
    same_after (same_map (same_after (same_fork (root_spelled root) (added_spelled root more (omega (arith, few_choices root (marked_choice more) good)) (added_alternatives_of_profile root more good))) fork_spelled)) (map_spelled (either_there root more) (either_back root more))
