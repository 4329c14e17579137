-- What is explained of octets.
use Rattle.std.specs.Prelude.{◌≡◌, ℕ, List, Option, Some, None, Err}
use Rattle.asn_values.specs.Datum.{Datum}
use Rattle.asn_values.specs.Shape.{Shape}
use Rattle.asn_rules.specs.Answer.{Ruling, IsEncoding}
use Rattle.asn_rules.specs.Codec.{Decoded}
use Rattle.asn_rules.specs.declared.fault.DecodeFault.TheVariants as decode
use Rattle.asn_explain.specs.declared.explanation.Explanation.{Explanation}

-- nothing is, where they are the encoding of a value; else the fault is one that a decoder tells of them
abbrev pub Explains : Ruling → Shape → List ℕ → Option Explanation → Type 0
Explains r t o None = (v : Datum) × IsEncoding r t v o
Explains r t o (Some told) = Decoded r (Err told.fault) t o × (told.fault ≡ decode.Memory → ⊥)
