-- The law of JSON.
use Rattle.serde_json.specs.Data.{Data}
use Rattle.asn_values.specs.Datum.{Datum}
use Rattle.asn_values.specs.Fits.{Fits}
use Rattle.asn_values.specs.Profile.{InProfile}
use Rattle.asn_values.specs.Shape.{Shape}
use Rattle.asn_json.specs.Errors.{Shown}
use Rattle.asn_json.specs.Written.{Written}

-- what is written of a value shows that value
abbrev pub IsReadBack : Type 0
IsReadBack = (t : Shape) (v : Datum) (j : Data) → InProfile t → Fits t v → Written t v j → Shown t j v
