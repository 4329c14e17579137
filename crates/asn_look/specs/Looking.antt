-- Values to begin from, as lines of JSON.
use Rattle.std.specs.Prelude.{◌≡◌, ◌∷◌, ◌++◌, [], ℕ, List}
use Rattle.serde_json.specs.Written.{compact_text}
use Rattle.asn_values.specs.Datum.{Datum}
use Rattle.asn_values.specs.Fits.{Fits}
use Rattle.asn_values.specs.View.{shape_of}
use Rattle.asn_values.specs.declared.types.AsnType.{AsnType}
use Rattle.asn_json.specs.Written.{json_of}

-- the line is the JSON of a value of the type, with its LF
abbrev pub IsExample : AsnType → List ℕ → Type 0
IsExample t line = (v : Datum) × Fits (shape_of t) v × (line ≡ compact_text (json_of (shape_of t) v) ++ 10 ∷ [])
