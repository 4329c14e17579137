-- The items of the root of an ENUMERATED of the profile, and their numbers, as the program has them.
use Rattle.std.proofs.Common.{◌≡◌, ◌≤◌, ◌<◌, ◌+◌, ◌++◌, ◌==◌, ℕ, zero, suc, ℤ, pos, negsuc, true, false, List, [], ◌∷◌, map, length, get_or, Option, Some, None, is_some, refl, sym, ap, subst, ◌∙◌, nat_lt, arith}
use Rattle.std.proofs.lemmas.Bool.{true≢false, ltb-false, or_parts}
use Rattle.std.proofs.lemmas.Int.{ints}
use Rattle.std.proofs.lemmas.List.{length-map}
use Rattle.std.specs.Global.{Vec}
use Rattle.std.specs.Int.RustNames.{int_lt}
use Rattle.std.specs.List.{list_any}
use mir.Syntax.{w64}
use mir.Val.{to_z, of_z}
use Rattle.asn_values.specs.declared.types.Item.{Item}
use Rattle.asn_values.specs.Shape.{Shape, Label, MoreLabels, enumerated, has_more_labels, more_labels}
use Rattle.asn_values.specs.Profile.{InProfile, EmptyRange, BadEnumeration, TooMany, is_not_32_bits, too_many_here, most_items, most_item_additions, most_nodes}
use Rattle.asn_values.specs.Measures.{nodes}
use Rattle.asn_values.specs.View.{label_of, more_labels_of}
use Rattle.asn_values.proofs.Parts.{left_false}
use Rattle.asn_rules.specs.Components.{number_at}
use Rattle.asn_rules.proofs.Law.Items.{numbers, good_items}
use Rattle.asn_plan.specs.Enumerations.{is_enumerated, root_items_of, other_items_of}
use Rattle.asn_plan.specs.Ranks.{AreRootItems}

-- whether there is a mark
pub mark_there : (more : Option (Vec Item)) → is_some more ≡ has_more_labels (more_labels_of more)
mark_there None = refl
mark_there (Some v) = refl

-- the items of a type that is an ENUMERATED
pub enumerated_is : (t : Shape) → is_enumerated t ≡ true → t ≡ enumerated (root_items_of t) (other_items_of t)
enumerated_is (enumerated root more) e = refl
enumerated_is _ e = absurd (true≢false (sym e))

-- ---- the root of a type of the profile

-- the root of an ENUMERATED of the profile
pub root_items : (root : List Label) (more : MoreLabels) → InProfile (enumerated root more) → AreRootItems root
root_items root more good =
    let w = good_items root more (good BadEnumeration) in
    record {
      some = some root (good EmptyRange);
      few = omega (arith, ltb-false most_items (length root + length (more_labels more)) (left_false (nat_lt most_items (length root + length (more_labels more))) (nat_lt most_item_additions (length (more_labels more))) (left_false (too_many_here (enumerated root more)) (nat_lt most_nodes (nodes (enumerated root more))) (good TooMany))));
      once = w.root_once;
      narrow = first root w.bits_32;
    }
  where
    some : (ls : List Label) → (length ls == 0) ≡ false → 0 < length ls
    some [] e = absurd (true≢false e)
    some (l ∷ ls) e = omega arith

    first : (ls : List Label) → list_any is_not_32_bits (numbers (ls ++ more_labels more)) ≡ false → list_any is_not_32_bits (numbers ls) ≡ false
    first [] e = refl
    first (l ∷ ls) e =
        let w = or_parts (is_not_32_bits l.number) _ e in
        rw (w.0, first ls w.1) refl

-- ---- the number of an item, as the program has it

pub number_small : (ls : List Label) (p : ℕ) → list_any is_not_32_bits (numbers ls) ≡ false → p < length ls → is_not_32_bits (number_at ls p) ≡ false
number_small [] p e h = absurd (omega arith)
number_small (l ∷ ls) zero e h = (or_parts (is_not_32_bits l.number) _ e).0
number_small (l ∷ ls) (suc p) e h = number_small ls p (or_parts (is_not_32_bits l.number) _ e).1 (omega arith)

-- a number of 32 signed bits lies so near to 0
pub near_above : (n : ℕ) → is_not_32_bits (pos n) ≡ false → n ≤ 2147483647
near_above n e = ltb-false 2147483647 n (or_parts (int_lt (pos n) (negsuc 2147483647)) (int_lt (pos 2147483647) (pos n)) e).1

pub near_below : (n : ℕ) → is_not_32_bits (negsuc n) ≡ false → n ≤ 2147483647
near_below n e = ltb-false 2147483647 n (or_parts (int_lt (negsuc n) (negsuc 2147483647)) (int_lt (pos 2147483647) (negsuc n)) e).0

-- and keeps its value in 64 bits
kept : (z : ℤ) → is_not_32_bits z ≡ false → to_z w64 (of_z w64 z) ≡ z
kept (pos n) e = let h = near_above n e in omega (arith, ints)
kept (negsuc n) e = let h = near_below n e in omega (arith, ints)

number_there : (is : List Item) (p : ℕ) (d x : Item) → p < length is → x ≡ get_or is p d → number_at (map label_of is) p ≡ x.number
number_there [] p d x h e = absurd (omega arith)
number_there (i ∷ is) zero d x h e = ap (λ (y : Item). y.number) (sym e)
number_there (i ∷ is) (suc p) d x h e = number_there is p d x (omega arith) e

-- it is the one at its position
pub item_kept : (is : List Item) (p : ℕ) (d x : Item) → AreRootItems (map label_of is) → p < length is → x ≡ get_or is p d → to_z w64 (of_z w64 x.number) ≡ number_at (map label_of is) p
item_kept is p d x good h e =
    let there = number_there is p d x h e in
    let inside : p < length (map label_of is) = simp length-map h in
    kept x.number (subst (λ z. is_not_32_bits z ≡ false) there (number_small (map label_of is) p good.narrow inside)) ∙ sym there
