-- The number of an item of an ENUMERATED, as the program has it.
use Rattle.std.proofs.Common.{◌≡◌, ◌≤◌, ◌<◌, ◌+◌, ◌-◌, ℕ, zero, suc, ℤ, pos, negsuc, false, List, [], ◌∷◌, ◌++◌, map, length, length-append, get_or, nat_lt, refl, sym, ◌∙◌, ap, subst, arith}
use Rattle.std.proofs.lemmas.Bool.{ltb-false, or_parts}
use Rattle.std.proofs.lemmas.Int.{ints}
use Rattle.std.proofs.lemmas.List.{length-map}
use mir.Syntax.{w64}
use mir.Val.{to_z, of_z}
use Rattle.std.specs.List.{list_any}
use Rattle.std.specs.Int.RustNames.{int_lt}
use Rattle.asn_values.specs.declared.types.Item.{Item}
use Rattle.asn_values.specs.Profile.{InProfile, BadEnumeration, TooMany, is_not_32_bits, too_many_here, most_items, most_item_additions, most_nodes}
use Rattle.asn_values.specs.Measures.{nodes}
use Rattle.asn_values.specs.Shape.{Label, MoreLabels, enumerated, marked_labels, more_labels}
use Rattle.asn_values.specs.View.{label_of}
use Rattle.asn_values.proofs.Parts.{left_false}
use Rattle.asn_bits.specs.Numbers.{magnitude}
use Rattle.asn_rules.specs.Components.{number_at}
use Rattle.asn_rules.proofs.Law.Items.{good_items, numbers}

-- a number of 32 bits
small_magnitude : (z : ℤ) → is_not_32_bits z ≡ false → magnitude z < 2147483648
small_magnitude (pos n) h = let w = ltb-false 2147483647 n (or_parts (int_lt (pos n) (negsuc 2147483647)) _ h).1 in omega arith
small_magnitude (negsuc n) h = let w = ltb-false 2147483647 n (or_parts (nat_lt 2147483647 n) _ h).0 in omega arith

-- the numbers of items are numbers of 32 bits
pub number_is_small : (ls : List Label) (p : ℕ) → list_any is_not_32_bits (numbers ls) ≡ false
    → magnitude (number_at ls p) < 2147483648
number_is_small [] p h = omega arith
number_is_small (l ∷ ls) zero h = small_magnitude l.number (or_parts (is_not_32_bits l.number) _ h).0
number_is_small (l ∷ ls) (suc p) h = number_is_small ls p (or_parts (is_not_32_bits l.number) _ h).1

-- a number of 32 signed bits keeps its value in 64
pub near : (z : ℤ) → magnitude z < 2147483648 → to_z w64 (of_z w64 z) ≡ z
near (pos n) h = omega (arith, ints)
near (negsuc n) h = omega (arith, ints)

number_there : (is : List Item) (p : ℕ) (d : Item) → p < length is
    → number_at (map label_of is) p ≡ (get_or is p d).number
number_there [] p d h = absurd (omega arith)
number_there (i ∷ is) zero d h = refl
number_there (i ∷ is) (suc p) d h = number_there is p d (omega arith)

at_front : (xs ys : List Label) (p : ℕ) → p < length xs → number_at (xs ++ ys) p ≡ number_at xs p
at_front [] ys p h = absurd (omega arith)
at_front (x ∷ xs) ys zero h = refl
at_front (x ∷ xs) ys (suc p) h = at_front xs ys p (omega arith)

after_front : (xs ys : List Label) (p q : ℕ) → p ≡ length xs + q → number_at (xs ++ ys) p ≡ number_at ys q
after_front [] ys p q e = ap (λ (n : ℕ). number_at ys n) (omega (arith, e))
after_front (x ∷ xs) ys zero q e = absurd (omega (arith, e))
after_front (x ∷ xs) ys (suc p) q e = after_front xs ys p q (omega (arith, e))

-- of the root
pub root_number : (root : List Item) (more : MoreLabels) (p : ℕ) (d : Item)
    → InProfile (enumerated (map label_of root) more) → p < length root
    → to_z w64 (of_z w64 (get_or root p d).number) ≡ number_at (map label_of root ++ more_labels more) p
root_number root more p d good h =
    let ls = map label_of root in
    let inside : p < length ls = simp length-map h in
    let there : number_at (ls ++ more_labels more) p ≡ (get_or root p d).number = at_front ls (more_labels more) p inside ∙ number_there root p d h in
    let small = number_is_small (ls ++ more_labels more) p (good_items ls more (good BadEnumeration)).bits_32 in
    near (get_or root p d).number (subst (λ (z : ℤ). magnitude z < 2147483648) there small) ∙ sym there

-- of the additions
pub added_number : (root items : List Item) (p : ℕ) (d : Item)
    → InProfile (enumerated (map label_of root) (marked_labels (map label_of items))) → length root ≤ p
    → p < length root + length items
    → to_z w64 (of_z w64 (get_or items (p - length root) d).number)
    ≡ number_at (map label_of root ++ map label_of items) p
added_number root items p d good l h =
    let ls = map label_of root in
    let ms = map label_of items in
    let same : length ls ≡ length root = simp length-map in
    let place : p ≡ length ls + (p - length root) = omega (arith, same, l) in
    let there : number_at (ls ++ ms) p ≡ (get_or items (p - length root) d).number =
    after_front ls ms p (p - length root) place ∙ number_there items (p - length root) d (omega (arith, l, h)) in
    let small = number_is_small (ls ++ ms) p (good_items ls (marked_labels ms) (good BadEnumeration)).bits_32 in
    near (get_or items (p - length root) d).number (subst (λ (z : ℤ). magnitude z < 2147483648) there small) ∙ sym there

-- a type of the profile has few of them
pub few_items : (root : List Label) (more : MoreLabels) → InProfile (enumerated root more)
    → length (root ++ more_labels more) ≤ 256
few_items root more good =
    omega (arith, length-append root (more_labels more), ltb-false most_items (length root + length (more_labels more)) (left_false (nat_lt most_items (length root + length (more_labels more))) (nat_lt most_item_additions (length (more_labels more))) (left_false (too_many_here (enumerated root more)) (nat_lt most_nodes (nodes (enumerated root more))) (good TooMany))))
