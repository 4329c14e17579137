-- What the writers of Canonical OER (X.696) write.
use Rattle.std.specs.Prelude.{ℕ, suc, List, [], ◌∷◌, ◌++◌}
use Rattle.asn_bits.specs.Lengths.{octet_length}
use Rattle.asn_rules.specs.Filled.{filled_octets, unused_bits}

-- of n bits: the length of what follows, and the number of unused bits
abbrev pub bits_header : ℕ → List ℕ
bits_header n = octet_length (suc (filled_octets n)) ++ unused_bits n ∷ []
