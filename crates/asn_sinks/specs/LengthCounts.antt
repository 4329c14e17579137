-- How many bits length determinants have.
use Rattle.std.specs.Prelude.{◌+◌, ◌*◌, ◌/◌, ◌%◌, ℕ, min, true, false, nat_lt}
use Rattle.asn_bits.specs.Numbers.{octet_count}

-- the general ones of n octets: one octet for each fragment of 65536 octets, one for a fragment of fewer, and the last
-- one, of one or two octets (X.691, "general length determinant")
abbrev pub general_count : ℕ → ℕ
general_count n = 8 * (n / 65536) + (8 * min 1 (n % 65536 / 16384) + (8 + 8 * min 1 (n % 16384 / 128)))

-- the single one of n octets (X.696, "length determinant")
abbrev pub single_count : ℕ → ℕ
single_count n = elim (nat_lt n 128) [ true ↦ 8 | false ↦ 8 + 8 * octet_count n ]
