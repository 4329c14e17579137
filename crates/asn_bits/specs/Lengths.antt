-- Lengths: how a list is cut into fragments, and what stands before each (X.691, "general length
-- determinant"); the length of octets in OER (X.696, "length determinant").
use Rattle.std.specs.Prelude.{◌+◌, ◌-◌, ◌*◌, ◌/◌, ℕ, zero, suc, min, true, false, List, [], ◌∷◌, ◌++◌, map, length, take, drop, nat_lt}
use Rattle.asn_bits.specs.Numbers.{bits, octets, octet_count}

-- ---- PER

-- the bits of one length, and how many items follow it at once
pub record Length : Type 0 where
  pub bits : List ℕ
  pub items : ℕ

-- the length that the last items follow: 0 and 7 bits below 128, else 10 and 14 bits
abbrev pub last_length : ℕ → Length
last_length n =
    record { bits = elim (nat_lt n 128) [ true ↦ 0 ∷ bits 7 n | false ↦ 1 ∷ 0 ∷ bits 14 n ]; items = n }

-- the length of a fragment of m blocks of 16384 items: 11 and 6 bits
abbrev pub fragment : ℕ → Length
fragment m = record { bits = 1 ∷ 1 ∷ bits 6 m; items = 16384 * m }

-- the most blocks that a fragment of n items may have: 4 at most
abbrev pub blocks : ℕ → ℕ
blocks n = min 4 (n / 16384)

-- the lengths of n items, with this many fragments at most
abbrev pub lengths_within : ℕ → ℕ → List Length
lengths_within zero n = last_length n ∷ []
lengths_within (suc turns) n =
    elim (nat_lt n 16384) [
      | true ↦ last_length n ∷ []
      | false ↦ fragment (blocks n) ∷ lengths_within turns (n - 16384 * blocks n)
    ]

-- the lengths of n items: each fragment as large as can be, and then a length that may be 0
abbrev pub lengths : ℕ → List Length
lengths n = lengths_within (n / 16384) n

abbrev pub joined : {A : Type 0} → List (List A) → List A
joined [] = []
joined (x ∷ xs) = x ++ joined xs

-- each length, and after it the items that it counts
abbrev pub with_lengths : {A : Type 0} → (ℕ → A) → List Length → List (List A) → List A
with_lengths bit [] items = []
with_lengths bit (l ∷ ls) items =
    map bit l.bits ++ (joined (take l.items items) ++ with_lengths bit ls (drop l.items items))

-- items under their general length
abbrev pub general : {A : Type 0} → (ℕ → A) → List (List A) → List A
general bit items = with_lengths bit (lengths (length items)) items

-- octets under their general length
abbrev pub general_octets : {A : Type 0} → (ℕ → A) → List ℕ → List A
general_octets bit os = general bit (map (λ o. map bit (bits 8 o)) os)

-- ---- OER

-- the octets of a length: one to 127, else 128 + k and k octets, the fewest
abbrev pub octet_length : ℕ → List ℕ
octet_length n = elim (nat_lt n 128) [ true ↦ n ∷ [] | false ↦ (128 + octet_count n) ∷ octets (octet_count n) n ]
