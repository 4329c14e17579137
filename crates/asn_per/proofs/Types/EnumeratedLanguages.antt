-- ENUMERATED in PER is put together from its parts: the indexes of the root, and those of the additions after an
-- extension mark.
use Rattle.std.proofs.Common.{◌≡◌, ◌≤◌, ◌<◌, ◌+◌, ◌-◌, ◌⊎◌, inl, inr, ℕ, Bool, true, false, List, [], length, nat_lt, refl, sym, ap, arith}
use Rattle.std.proofs.lemmas.Bool.{ltb-true, ltb-false, lt-ltb, le-ltb}
use Rattle.asn_values.specs.Datum.{Datum, item}
use Rattle.asn_values.specs.Shape.{Label, MoreLabels, closed_labels, marked_labels, more_labels, enumerated}
use Rattle.asn_values.specs.Fits.{Fits}
use Rattle.asn_values.specs.Profile.{InProfile, BadEnumeration, TooMany, int_eq, has_twice, too_many_here, most_nodes, most_items, most_item_additions}
use Rattle.asn_values.specs.Measures.{nodes}
use Rattle.asn_values.proofs.Parts.{left_false, right_false}
use Rattle.asn_rules.specs.Chunks.{Chunk, ones}
use Rattle.asn_rules.specs.Components.{number_at}
use Rattle.asn_rules.specs.Languages.{Map}
use Rattle.asn_rules.specs.Forks.{Same}
use Rattle.asn_rules.specs.Spellings.{SpelledBy, FitsEither, either_code}
use Rattle.asn_rules.proofs.Law.Items.{numbers, good_items}
use Rattle.asn_rules.proofs.Languages.Spellings.{same_after, same_map, same_fork, same_spelled, map_spelled, fork_spelled}
use Rattle.asn_per.specs.Per.{per, constrained, small, rank}
use Rattle.asn_per.specs.Kinds.{Values, SmallBelow, of_either, position_of, RootItems, Items}
use Rattle.asn_per.proofs.Types.BooleanAndNull.{below_spelled}
use Rattle.asn_per.proofs.Law.Enumerations.{rank_inside}
use Rattle.asn_per.proofs.Types.Ranks.{place_there, place_back}
use Rattle.asn_per.proofs.Types.SmallNumbers.{small_spelled}

-- ---- the root

-- the items of the root
abbrev IsRootItem : List Label → Datum → Type 0
IsRootItem root (item p) = p < length root
IsRootItem root _ = ⊥

-- their spelling after the extension bit
abbrev root_code : List Label → Datum → List Chunk
root_code root (item p) = ones (constrained (length root) (rank root (number_at root p)))
root_code root _ = []

-- an index is an item of the root
root_spelled : (root : List Label) → has_twice int_eq (numbers root) ≡ false → Same (RootItems root) (SpelledBy (IsRootItem root) (root_code root))
root_spelled root once = same_after (same_map (below_spelled (length root))) (map_spelled there back)
  where
    there : (n : ℕ) → n < length root → IsRootItem root (item (position_of root n)) × (ones (constrained (length root) n) ≡ root_code root (item (position_of root n)))
    there n h = let w = place_there root once n h in (w.0, ap (λ k. ones (constrained (length root) k)) (sym w.1))

    back : (v : Datum) → IsRootItem root v → (n : ℕ) × (n < length root) × (v ≡ item (position_of root n))
    back (item p) h = (rank root (number_at root p), rank_inside root p h, ap item (sym (place_back root once p h)))
    back _ h = absurd h

-- ---- the additions

-- the items after the mark
abbrev IsAddedItem : List Label → List Label → Datum → Type 0
IsAddedItem root more (item p) = (length root ≤ p) × (p < length root + length more)
IsAddedItem root more _ = ⊥

-- their spelling after the extension bit
abbrev added_code : List Label → Datum → List Chunk
added_code root (item p) = ones (small (p - length root))
added_code root _ = []

-- a small number is an addition
added_spelled : (root more : List Label) → length more ≤ 256 → Same (Map (λ k. item (length root + k)) (SmallBelow (length more))) (SpelledBy (IsAddedItem root more) (added_code root))
added_spelled root more few = same_after (same_map (small_spelled (length more) few)) (map_spelled there back)
  where
    there : (k : ℕ) → k < length more → IsAddedItem root more (item (length root + k)) × (ones (small k) ≡ added_code root (item (length root + k)))
    there k h = let e : k ≡ length root + k - length root = omega arith in ((omega arith, omega arith), ap (λ (i : ℕ). ones (small i)) e)

    back : (v : Datum) → IsAddedItem root more v → (k : ℕ) × (k < length more) × (v ≡ item (length root + k))
    back (item p) h = let e : p ≡ length root + (p - length root) = omega (arith, h.0) in (p - length root, omega (arith, h.0, h.1), ap item e)
    back _ h = absurd h

-- ---- both

-- items that are of the root or not
either_there : (root more : List Label) (w : Datum ⊎ Datum) → FitsEither (IsRootItem root) (IsAddedItem root more) w
    → Fits (enumerated root (marked_labels more)) (of_either w) × (either_code (root_code root) (added_code root) w ≡ per (enumerated root (marked_labels more)) (of_either w))
either_there root more (inl (item p)) h = (omega arith, rw (lt-ltb p (length root) h) refl)
either_there root more (inr (item p)) h = (h.1, rw (le-ltb p (length root) h.0) refl)
either_there root more (inl _) h = absurd h
either_there root more (inr _) h = absurd h

-- each item is one of the two
either_back : (root more : List Label) (v : Datum) → Fits (enumerated root (marked_labels more)) v → (w : Datum ⊎ Datum) × FitsEither (IsRootItem root) (IsAddedItem root more) w × (v ≡ of_either w)
either_back root more (item p) h = go (nat_lt p (length root)) refl
  where
    go : (b : Bool) → nat_lt p (length root) ≡ b → (w : Datum ⊎ Datum) × FitsEither (IsRootItem root) (IsAddedItem root more) w × (item p ≡ of_either w)
    go true e = let l = ltb-true p (length root) e in (inl (item p), l, refl)
    go false e = let l = ltb-false p (length root) e in (inr (item p), (l, h), refl)
either_back root more _ h = absurd h

-- without a mark those of the root are values
closed_there : (root : List Label) (v : Datum) → IsRootItem root v → Fits (enumerated root closed_labels) v × (root_code root v ≡ per (enumerated root closed_labels) v)
closed_there root (item p) h = (omega arith, refl)
closed_there root _ h = absurd h

-- and there are no others
closed_is : (root : List Label) (v : Datum) → Fits (enumerated root closed_labels) v → IsRootItem root v
closed_is root (item p) h = omega (arith, h)
closed_is root _ h = absurd h

-- the numbers of the root are distinct
pub root_once : (root : List Label) (more : MoreLabels) → InProfile (enumerated root more) → has_twice int_eq (numbers root) ≡ false
root_once root more good = (good_items root more (good BadEnumeration)).root_once

-- and there are few additions
pub few_additions : (root : List Label) (more : MoreLabels) → InProfile (enumerated root more) → length (more_labels more) ≤ most_item_additions
few_additions root more good =
    let here : too_many_here (enumerated root more) ≡ false = left_false (too_many_here (enumerated root more)) (nat_lt most_nodes (nodes (enumerated root more))) (good TooMany) in
    ltb-false most_item_additions (length (more_labels more)) (right_false (nat_lt most_items (length root + length (more_labels more))) (nat_lt most_item_additions (length (more_labels more))) here)

-- ENUMERATED
pub items_compose : (root : List Label) (more : MoreLabels) → InProfile (enumerated root more) → Same (Items root more) (Values (enumerated root more))
items_compose root closed_labels good = same_after (root_spelled root (root_once root closed_labels good)) (same_spelled (λ v h. (closed_there root v h).0) (closed_is root) (λ v h. (closed_there root v h).1))
items_compose root (marked_labels more) good =
    same_after (same_map (same_after (same_fork (root_spelled root (root_once root (marked_labels more) good)) (added_spelled root more (omega (arith, few_additions root (marked_labels more) good)))) fork_spelled)) (map_spelled (either_there root more) (either_back root more))
