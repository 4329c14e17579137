-- JSON in a layout.
use Rattle.std.specs.Prelude.{◌≡◌, ◌≤◌, ℕ, List, Some}
use Rattle.serde_json.specs.Data.{depth}
use Rattle.serde_json.specs.Read.{max_depth, read}
use Rattle.asn_values.specs.Datum.{Datum}
use Rattle.asn_values.specs.Shape.{Shape}
use Rattle.asn_rules.specs.Answer.{Ruling}
use Rattle.asn_json.specs.Written.{json_of}
use Rattle.asn_rules.specs.CodecLaws.{Encoded}

-- the text is read as the JSON of the value, unless that is deeper than is read
abbrev pub ReadsAs : Shape → Datum → List ℕ → Type 0
ReadsAs t v text = depth (json_of t v) ≤ max_depth → read text ≡ Some (json_of t v)

-- it is that of the value that the octets encode
abbrev pub ShowsSame : Ruling → Shape → List ℕ → List ℕ → Type 0
ShowsSame r t o text = (v : Datum) × Encoded r t v o × ReadsAs t v text
