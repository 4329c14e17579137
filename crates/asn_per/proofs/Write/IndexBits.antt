-- The bits of an index of the root or of the additions, as a writer puts them.
use Rattle.std.proofs.Common.{◌≡◌, ◌≤◌, ◌<◌, ◌+◌, ◌⊎◌, ◌/◌, ◌%◌, ◌^◌, ℕ, suc, Bool, true, false, List, ◌∷◌, ◌++◌, nat_le, sym, ap, ◌∙◌, arith}
use Rattle.std.proofs.lemmas.Bool.{lt-ltb, le-leb}
use Rattle.std.proofs.Math.Nat.{div-eq_of_lt, pow-le-pow_right}
use Rattle.asn_bits.specs.Numbers.{bits, width}
use Rattle.asn_bits.proofs.Octets.{least_from_below}
use Rattle.asn_bits.proofs.Splits.{digits_above}
use Rattle.asn_bits.proofs.Widths.{width_fits}
use Rattle.asn_rules.specs.Components.{bit_of, extension_bit}
use Rattle.asn_per.specs.Indexes.{index_bits}
use Rattle.asn_per.specs.Per.{constrained, small}

-- at most 256 indexes take at most 8 bits
pub few_index_bits : (values : ℕ) → values ≤ 256 → width values ≤ 8
few_index_bits values h = least_from_below (λ k. nat_le values (2 ^ k)) values 0 8 (omega arith) (le-leb values (2 ^ 8) h)

-- the bits of one index
pub same_index_bits : {m n : ℕ} {a b : Bool} {i j : ℕ ⊎ ℕ} → m ≡ n → a ≡ b → i ≡ j → index_bits m a i ≡ index_bits n b j
same_index_bits {m} {n} {a} {b} {i} {j} e f g = ap (λ (k : ℕ). index_bits k a i) e ∙ ap (λ (c : Bool). index_bits n c i) f ∙ ap (index_bits n b) g

-- ---- an index of the root

module _ (root index : ℕ) (inside : index < root) where
  -- it has this many bits, and one more after an extension mark
  pub index_fits : (mark : ℕ) → index < 2 ^ (mark + width root)
  index_fits mark =
      let more : width root ≤ mark + width root = omega arith in
      omega (arith, width_fits root index inside, pow-le-pow_right {n = 2} (omega arith) {i = width root} {j = mark + width root} more)

  -- which are written at once
  pub root_index_bits : (marked : Bool) (mark : ℕ) → mark ≡ bit_of marked → extension_bit marked false ++ constrained root index ≡ bits (mark + width root) index
  root_index_bits false mark e = let count : width root ≡ mark + width root = omega (arith, e) in ap (λ (k : ℕ). bits k index) count
  root_index_bits true mark e =
      let none : index / 2 ^ width root ≡ 0 = div-eq_of_lt (width_fits root index inside) in
      let front : 0 ≡ (index / 2 ^ width root) % 2 = ap (λ (q : ℕ). q % 2) (sym none) in
      let count : suc (width root) ≡ mark + width root = omega (arith, e) in
      ap (λ (d : ℕ). d ∷ bits (width root) index) front ∙ ap (λ (k : ℕ). bits k index) count

-- ---- the index of an addition

pub added_index_bits : (k : ℕ) → k < 64 → 1 ∷ small k ≡ bits 8 (128 + k)
added_index_bits k h =
    let first : 1 ≡ ((128 + k) / 2 ^ 7) % 2 = omega (arith, h) in
    let second : 0 ≡ ((128 + k) / 2 ^ 6) % 2 = omega (arith, h) in
    let others : bits 6 k ≡ bits 6 (128 + k) = sym (digits_above 2 (omega arith) 6 2 k) in
    rw (lt-ltb k 64 h, small) (ap (λ (d : ℕ). d ∷ 0 ∷ bits 6 k) first ∙ ap (λ (d : ℕ). ((128 + k) / 2 ^ 7) % 2 ∷ d ∷ bits 6 k) second ∙ ap (λ (ds : List ℕ). ((128 + k) / 2 ^ 7) % 2 ∷ ((128 + k) / 2 ^ 6) % 2 ∷ ds) others)
