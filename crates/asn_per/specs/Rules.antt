-- CANONICAL-PER UNALIGNED (X.691) as encoding rules: the unit is a bit.
use Rattle.std.specs.Prelude.{ℕ, List}
use Rattle.asn_values.specs.Datum.{Datum}
use Rattle.asn_values.specs.Shape.{Shape}
use Rattle.asn_bits.specs.Numbers.{unpacked}
use Rattle.asn_rules.specs.Answer.{Ruling, IsEncoding}
use Rattle.asn_per.specs.Per.{per_whole, per_fields}

unfoldable pub per_ruling : Ruling
per_ruling = record { fielding = per_fields; whole = per_whole; units = unpacked }

-- the octets are the complete encoding of the value
abbrev pub IsPerEncoding : Shape → Datum → List ℕ → Type 0
IsPerEncoding t v o = IsEncoding per_ruling t v o
