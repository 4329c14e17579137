-- Strings in OER: bits, octets and characters, of a fixed size or with their length, tell the value.
use Rattle.std.proofs.Common.{◌≡◌, ◌==◌, ℕ, Bool, true, false, not, ◌&&◌, ◌||◌, List, [], ◌∷◌, ◌++◌, length, map, Option, Some, None, refl, sym, ◌∙◌, arith, IsTrue, nat_le}
use Rattle.std.proofs.lemmas.Bool.{true≢false, leb-true, eqb-true, and_parts}
use Rattle.std.proofs.lemmas.List.{length-map}
use Rattle.asn_values.specs.Shape.{SizeRange}
use Rattle.asn_values.specs.Fits.{FitsLength, not_above}
use Rattle.asn_values.specs.Profile.{is_fixed_size}
use Rattle.asn_bits.specs.Numbers.{padding}
use Rattle.asn_bits.proofs.Codes.{IsCode, equal_fronts}
use Rattle.asn_bits.proofs.FilledBits.{AreBits, filled_up_code, filled_up_once}
use Rattle.asn_rules.specs.Components.{bit_of}
use Rattle.asn_rules.proofs.Law.Entries.{bit_of_same}
use Rattle.asn_rules.specs.Fields.{spelled}
use Rattle.asn_rules.specs.Filled.{filled_bits}
use Rattle.asn_rules.proofs.Octets.OctetFields.{spelled_code}
use Rattle.asn_rules.proofs.Octets.BitStrings.{list_bits}
use Rattle.asn_oer.specs.Oer.{variable_bits, bit_octets, sized_octets}

-- ---- sizes

-- a fixed size has one length
pub one_length : (z : SizeRange) (n : ℕ) → is_fixed_size z ≡ true → FitsLength z n → n ≡ z.low
one_length z n h f = go z.extensible z.high h f.1
  where
    fixed : ℕ → Option ℕ → Bool
    fixed low None = false
    fixed low (Some high) = low == high

    go : (m : Bool) (high : Option ℕ) → (not m && fixed z.low high) ≡ true → IsTrue (m || (nat_le z.low n && not_above high n)) → n ≡ z.low
    go true high h f = absurd (true≢false (sym h))
    go false None h f = absurd (true≢false (sym h))
    go false (Some high) h f =
        let w = and_parts (nat_le z.low n) (nat_le n high) f in
        omega (arith, eqb-true z.low high h, leb-true z.low n w.0, leb-true n high w.1)

-- two lengths of a fixed size are one
pub fixed_length : (z : SizeRange) (m n : ℕ) → is_fixed_size z ≡ true → FitsLength z m → FitsLength z n → m ≡ n
fixed_length z m n h p q = one_length z m h p ∙ sym (one_length z n h q)

-- ---- octets and characters

-- octets of a size are a code
pub sized_code : (z : SizeRange) → IsCode (λ os. FitsLength z (length os)) (sized_octets z)
sized_code z x y r s p q e = go (is_fixed_size z) refl e
  where
    go : (b : Bool) → is_fixed_size z ≡ b → elim b [ true ↦ x | false ↦ spelled x ] ++ r ≡ elim b [ true ↦ y | false ↦ spelled y ] ++ s → (x ≡ y) × (r ≡ s)
    go true h e = equal_fronts x y r s (fixed_length z (length x) (length y) h p q) e
    go false h e = spelled_code x y r s e

-- ---- bits

-- and their bits tell them
map_bits_same : (x y : List Bool) → map bit_of x ≡ map bit_of y → x ≡ y
map_bits_same [] [] e = refl
map_bits_same [] (b ∷ y) e = absurd (cc)
map_bits_same (a ∷ x) [] e = absurd (cc)
map_bits_same (a ∷ x) (b ∷ y) e =
    let first : bit_of a ≡ bit_of b = cc in
    let rest : map bit_of x ≡ map bit_of y = cc in
    cc (bit_of_same a b first, map_bits_same x y rest)

-- bits with their length
pub variable_code : IsCode AreBits variable_bits
variable_code x y r s p q e =
    let w = spelled_code (length (padding (length x)) ∷ filled_bits x) (length (padding (length y)) ∷ filled_bits y) r s e in
    let unused : length (padding (length x)) ≡ length (padding (length y)) = cc (w.0) in
    let octets : filled_bits x ≡ filled_bits y = cc (w.0) in
    (filled_up_once x y p q unused octets, w.1)

-- a BIT STRING is a code
pub bits_code : (z : SizeRange) → IsCode (λ bs. FitsLength z (length bs)) (λ bs. bit_octets z (map bit_of bs))
bits_code z x y r s p q e = go (is_fixed_size z) refl e
  where
    us : List ℕ
    us = map bit_of x

    ws : List ℕ
    ws = map bit_of y

    lengths_same : is_fixed_size z ≡ true → length us ≡ length ws
    lengths_same h = length-map x bit_of ∙ fixed_length z (length x) (length y) h p q ∙ sym (length-map y bit_of)

    go : (b : Bool) → is_fixed_size z ≡ b → elim b [ true ↦ filled_bits us | false ↦ variable_bits us ] ++ r ≡ elim b [ true ↦ filled_bits ws | false ↦ variable_bits ws ] ++ s → (x ≡ y) × (r ≡ s)
    go true h e = let w = filled_up_code us ws r s (list_bits x) (list_bits y) (lengths_same h) e in (map_bits_same x y w.0, w.1)
    go false h e = let w = variable_code us ws r s (list_bits x) (list_bits y) e in (map_bits_same x y w.0, w.1)
