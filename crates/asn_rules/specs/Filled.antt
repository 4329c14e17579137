-- Bits that are filled up to octets with zeros.
use Rattle.std.specs.Prelude.{◌+◌, ◌-◌, ◌/◌, ◌%◌, ℕ, List, ◌++◌, length}
use Rattle.asn_bits.specs.Numbers.{packed, padding}

-- how many octets n bits fill
abbrev pub filled_octets : ℕ → ℕ
filled_octets n = (n + 7) / 8

-- and how many bits are unused then
abbrev pub unused_bits : ℕ → ℕ
unused_bits n = (8 - n % 8) % 8

-- bits, filled up to whole octets
abbrev pub filled_bits : List ℕ → List ℕ
filled_bits bs = packed (bs ++ padding (length bs))
