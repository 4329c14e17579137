-- Characters are told by their bits in PER.
use Rattle.std.proofs.Common.{◌≡◌, ◌≤◌, ◌<◌, ◌-◌, ◌==◌, ◌⊎◌, ℕ, Bool, true, false, ◌&&◌, ◌||◌, inl, inr, refl, arith, IsTrue, nat_le}
use Rattle.std.proofs.lemmas.Bool.{and_parts, ltb-true, leb-true, eqb-true}
use Rattle.asn_values.specs.Shape.{Alphabet, ia5, numeric, visible}
use Rattle.asn_values.specs.Fits.{is_of_kind}
use Rattle.asn_bits.proofs.Codes.{IsCode}
use Rattle.asn_bits.proofs.Digits.{digits_code}
use Rattle.asn_per.specs.Per.{character_bits}

-- the index of a character of NumericString
abbrev numeric_index : ℕ → ℕ
numeric_index c = elim (c == 32) [ true ↦ 0 | false ↦ c - 47 ]

-- SPACE has index 0, and a digit one more than it says
numeric_cases : (c : ℕ) → ((c == 32) || (nat_le 48 c && nat_le c 57)) ≡ true → ((c ≡ 32) × (numeric_index c ≡ 0)) ⊎ ((48 ≤ c) × (c ≤ 57) × (numeric_index c ≡ c - 47))
numeric_cases c h = go (c == 32) refl h
  where
    go : (b : Bool) → (c == 32) ≡ b → (b || (nat_le 48 c && nat_le c 57)) ≡ true → ((c ≡ 32) × (numeric_index c ≡ 0)) ⊎ ((48 ≤ c) × (c ≤ 57) × (numeric_index c ≡ c - 47))
    go true e h = inl (eqb-true c 32 e, rw (e, numeric_index) refl)
    go false e h = let w = and_parts _ _ h in inr (leb-true 48 c w.0, leb-true c 57 w.1, rw (e, numeric_index) refl)

-- an index has 4 bits
numeric_below : (c : ℕ) → ((c == 32) || (nat_le 48 c && nat_le c 57)) ≡ true → numeric_index c < 16
numeric_below c h = elim (numeric_cases c h) [
  | inl a ↦ omega arith
  | inr a ↦ omega arith
]

-- and tells the character
numeric_once : (c d : ℕ) → ((c == 32) || (nat_le 48 c && nat_le c 57)) ≡ true → ((d == 32) || (nat_le 48 d && nat_le d 57)) ≡ true → numeric_index c ≡ numeric_index d → c ≡ d
numeric_once c d p q e =
    elim (numeric_cases c p) [
      | inl a ↦ elim (numeric_cases d q) [ inl b ↦ omega arith | inr b ↦ omega arith ]
      | inr a ↦ elim (numeric_cases d q) [ inl b ↦ omega arith | inr b ↦ omega arith ]
    ]

-- the characters of an alphabet are told by their bits
pub character_code : (k : Alphabet) → IsCode (λ c. IsTrue (is_of_kind k c)) (character_bits k)
character_code ia5 c d r s p q e = digits_code 2 (omega arith) 7 c d r s (ltb-true c 128 p) (ltb-true d 128 q) e
character_code visible c d r s p q e =
    let a : c ≤ 126 = leb-true c 126 (and_parts (nat_le 32 c) (nat_le c 126) p).1 in
    let b : d ≤ 126 = leb-true d 126 (and_parts (nat_le 32 d) (nat_le d 126) q).1 in
    digits_code 2 (omega arith) 7 c d r s (omega arith) (omega arith) e
character_code numeric c d r s p q e =
    let w = digits_code 2 (omega arith) 4 (numeric_index c) (numeric_index d) r s (numeric_below c p) (numeric_below d q) e in
    (numeric_once c d p q w.0, w.1)
