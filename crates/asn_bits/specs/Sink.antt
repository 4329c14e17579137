-- What the functions on bits say of a bit, and of octets with the fewer than 64 bits after them.
use Rattle.std.specs.Prelude.{◌≡◌, ◌<◌, ◌++◌, ℕ, Bool, true, false, List}
use Rattle.std.specs.List.{AllByRecursion}
use Rattle.asn_bits.specs.Lengths.{general_octets}
use Rattle.asn_bits.specs.Numbers.{bits, unpacked}

-- a bit as a number
abbrev pub bit_of : Bool → ℕ
bit_of true = 1
bit_of false = 0

-- octets `old` with the low `count` bits of `pending` after them became `new` with the low bits of another word, so
-- that `added` follows them
abbrev pub IsPut : List ℕ → ℕ → ℕ → List ℕ → List ℕ → ℕ → ℕ → Type 0
IsPut old count pending added new left word =
    unpacked new ++ bits left word ≡ (unpacked old ++ bits count pending) ++ added

-- the octets that `content` is in bits were added under their general length
abbrev pub AddsFilled : List ℕ → List ℕ → List ℕ → Type 0
AddsFilled old content new =
    (os : List ℕ) → AllByRecursion (λ o. o < 256) os → content ≡ unpacked os → new ≡ old ++ general_octets (λ u. u) os
