-- A list under its general length is at least as long as its items.
use Rattle.std.proofs.Common.{◌≡◌, ◌≤◌, ◌<◌, ◌-◌, ◌*◌, ◌/◌, ℕ, zero, suc, pred, inl, inr, List, [], ◌∷◌, ◌++◌, length, map, take, drop, refl, sym, ◌∙◌, ap, subst, arith, append_assoc, length-append, length-drop}
use Rattle.std.proofs.lemmas.List.{append-nil, length-map, take-append-drop}
use Rattle.std.proofs.Math.Seq.{take-length}
use Rattle.asn_bits.specs.Numbers.{bits}
use Rattle.asn_bits.specs.Lengths.{last_length, fragment, lengths_within, joined, with_lengths, general, general_octets}
use Rattle.asn_bits.proofs.GeneralLengths.{lengths_cases, blocks}
use Rattle.asn_bits.proofs.Octets.{length-digits}

-- lists of items, one after the other
pub joined-append : (xs ys : List (List ℕ)) → joined (xs ++ ys) ≡ joined xs ++ joined ys
joined-append [] ys = refl
joined-append (x ∷ xs) ys = ap (λ t. x ++ t) (joined-append xs ys) ∙ sym (append_assoc x (joined xs) (joined ys))

-- lists of this many fragments are at least as long as their items
abbrev IsLonger : ℕ → Type 0
IsLonger f = (items : List (List ℕ)) → length items < 16384 * suc f → length (joined items) ≤ length (with_lengths (λ u. u) (lengths_within f (length items)) items)

-- the last items under their length
longer_last : (items : List (List ℕ)) → length (joined items) ≤ length (with_lengths (λ u. u) (last_length (length items) ∷ []) items)
longer_last items =
    let front = map (λ u. u) (last_length (length items)).bits in
    let all : joined (take (length items) items) ++ [] ≡ joined items = append-nil (joined (take (length items) items)) ∙ ap joined (take-length items) in
    omega (arith, length-append front (joined (take (length items) items) ++ []), ap length all)

-- a fragment under its length, and what follows it
longer_fragment : (f m : ℕ) → IsLonger f → (items : List (List ℕ)) → m ≡ blocks (length items) → 16384 ≤ length items → length items < 16384 * suc (suc f)
    → length (joined items) ≤ length (with_lengths (λ u. u) (fragment m ∷ lengths_within f (length items - 16384 * m)) items)
longer_fragment f m again items is large w =
    let k = 16384 * m in
    let front = map (λ u. u) (fragment m).bits in
    let count : length (drop k items) ≡ length items - k = length-drop k items in
    let rest = with_lengths (λ u. u) (lengths_within f (length items - k)) (drop k items) in
    let back : length (joined (drop k items)) ≤ length (with_lengths (λ u. u) (lengths_within f (length (drop k items))) (drop k items)) = again (drop k items) (omega (arith, count)) in
    let after : length (joined (drop k items)) ≤ length rest = subst (λ i. length (joined (drop k items)) ≤ length (with_lengths (λ u. u) (lengths_within f i) (drop k items))) count back in
    let parts : joined (take k items) ++ joined (drop k items) ≡ joined items = sym (joined-append (take k items) (drop k items)) ∙ ap joined (take-append-drop k items) in
    omega (arith, length-append front (joined (take k items) ++ rest), length-append (joined (take k items)) rest, length-append (joined (take k items)) (joined (drop k items)), ap length parts, after)

-- the one or the other
longer_step : (f : ℕ) → (0 < f → IsLonger (pred f)) → IsLonger f
longer_step f again items w =
    elim (lengths_cases f (length items) w) [
      | inl a ↦ subst (λ ls. length (joined items) ≤ length (with_lengths (λ u. u) ls items)) (sym a.1) (longer_last items)
      | inr b ↦ subst (λ ls. length (joined items) ≤ length (with_lengths (λ u. u) ls items)) (sym b.2) (longer_fragment (pred f) (blocks (length items)) (again b.0) items refl b.1 (let l = b.0 in omega arith))
    ]

-- as many fragments as there are
longer_within : (f : ℕ) → IsLonger f
longer_within zero = longer_step zero (λ l. absurd (omega arith))
longer_within (suc f) = longer_step (suc f) (λ l. longer_within f)

-- items with their general length are no shorter than without
pub general_longer : (items : List (List ℕ)) → length (joined items) ≤ length (general (λ u. u) items)
general_longer items = longer_within (length items / 16384) items (omega arith)

-- octets are eight bits each
octets_long : (os : List ℕ) → length (joined (map (λ o. map (λ u. u) (bits 8 o)) os)) ≡ 8 * length os
octets_long [] = refl
octets_long (o ∷ os) =
    let byte = map (λ u. u) (bits 8 o) in
    let rest = joined (map (λ o. map (λ u. u) (bits 8 o)) os) in
    omega (arith, length-append byte rest, length-map (bits 8 o) (λ u. u), length-digits 2 8 o, octets_long os)

-- octets under their general length have at least eight bits an octet
pub octets_longer : (os : List ℕ) → 8 * length os ≤ length (general_octets (λ u. u) os)
octets_longer os =
    let items = map (λ o. map (λ u. u) (bits 8 o)) os in
    omega (arith, general_longer items, octets_long os)
