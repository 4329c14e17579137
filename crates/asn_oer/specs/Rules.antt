-- Canonical OER (X.696) as encoding rules: the unit is an octet.
use Rattle.std.specs.Prelude.{ℕ, List}
use Rattle.asn_values.specs.Datum.{Datum}
use Rattle.asn_values.specs.Shape.{Shape}
use Rattle.asn_rules.specs.Answer.{Ruling, IsEncoding}
use Rattle.asn_oer.specs.Oer.{oer, oer_fields}

unfoldable pub oer_ruling : Ruling
oer_ruling = record { fielding = oer_fields; whole = oer; units = λ os. os }

-- the octets are the encoding of the value
abbrev pub IsOerEncoding : Shape → Datum → List ℕ → Type 0
IsOerEncoding t v o = IsEncoding oer_ruling t v o
