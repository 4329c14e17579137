-- Items that are numbered one after the other.
use Rattle.std.proofs.Common.{◌≡◌, ◌+◌, ◌<◌, ◌≤◌, ◌++◌, ◌-ℤ◌, ℕ, suc, ℤ, pos, List, [], ◌∷◌, length, map, take, get_or, refl, sym, ap, ◌∙◌, arith}
use Rattle.std.proofs.Math.Numerals.{add-one}
use Rattle.std.proofs.Math.Seq.{take-suc}
use Rattle.std.proofs.lemmas.List.{length-map, length-take-le, map-append}
use Rattle.std.specs.Prelude.{string_bytes}
use Rattle.asn_values.specs.Shape.{Label}
use Rattle.asn_values.specs.View.{label_of}
use Rattle.asn_values.specs.declared.types.Item.{Item}
use Rattle.asn_plan.specs.InOrder.{numbered}

abbrev renumbered : Label → ℕ → Label
renumbered l n = record { name = l.name; number = pos n -ℤ pos 2147483648 }

numbered_next : (n : ℕ) (ls : List Label) (l : Label) → numbered n (ls ++ l ∷ []) ≡ numbered n ls ++ renumbered l (n + length ls) ∷ []
numbered_next n [] l =
    let e : n ≡ n + 0 = omega arith in
    ap (λ (k : ℕ). renumbered l k ∷ []) e
numbered_next n (k ∷ ls) l =
    let e : suc n + length ls ≡ n + suc (length ls) = omega arith in
    ap (λ (more : List Label). renumbered k n ∷ more) (numbered_next (suc n) ls l ∙ ap (λ (m : ℕ). numbered (suc n) ls ++ renumbered l m ∷ []) e)

-- the items so far, and the next
items_next : (xs : List Item) (i : ℕ) (x : Item) → i < length xs → x ≡ get_or xs i x
    → map label_of (take (i + 1) xs) ≡ map label_of (take i xs) ++ label_of x ∷ []
items_next xs i x h e =
    let split : take (i + 1) xs ≡ take i xs ++ x ∷ [] = rw (add-one, take-suc xs i x h, ← e) refl in
    ap (map label_of) split ∙ map-append label_of (take i xs) (x ∷ [])

pub one_numbered : (made xs : List Item) (i : ℕ) (x y : Item) → i < length xs → x ≡ get_or xs i x
    → string_bytes y.name ≡ string_bytes x.name → y.number ≡ pos i -ℤ pos 2147483648
    → map label_of made ≡ numbered 0 (map label_of (take i xs))
    → map label_of (made ++ y ∷ []) ≡ numbered 0 (map label_of (take (i + 1) xs))
one_numbered made xs i x y less same named counted h =
    let before = map label_of (take i xs) in
    let count : 0 + length before ≡ i = omega (arith, length-map (take i xs) label_of, length-take-le i xs (omega (arith, less))) in
    let is : label_of y ≡ renumbered (label_of x) i = ap (λ (n : List ℕ). record { name = n; number = y.number }) named ∙ ap (λ (z : ℤ). record { name = string_bytes x.name; number = z }) counted in
    map-append label_of made (y ∷ []) ∙ ap (λ (ls : List Label). ls ++ label_of y ∷ []) h
    ∙ ap (λ (l : Label). numbered 0 before ++ l ∷ []) (is ∙ ap (renumbered (label_of x)) (sym count))
    ∙ sym (numbered_next 0 before (label_of x)) ∙ ap (numbered 0) (sym (items_next xs i x less same))
