-- JSON that showed a value under the limits of the profile before this one, and what a reader makes of it.
use Rattle.std.specs.Prelude.{◌≡◌, Result, Ok, Err}
use Rattle.serde_json.specs.Data.{Data}
use Rattle.asn_values.specs.declared.value.Value.{Value}
use Rattle.asn_values.specs.Datum.{Datum}
use Rattle.asn_values.specs.Fits.{FitsUnder}
use Rattle.asn_values.specs.Older.{older_limits}
use Rattle.asn_values.specs.Profile.{InProfileUnder}
use Rattle.asn_values.specs.Shape.{Shape}
use Rattle.asn_values.specs.View.{datum_of}
use Rattle.asn_json.specs.Errors.{ShownUnder}
use Rattle.asn_json.specs.declared.fault.JsonFault.{JsonFault}
use Rattle.asn_json.specs.declared.fault.JsonFault.TheVariants as fault

-- the JSON was of the shape of the type and showed v, which was a value of it
pub record ShownBefore (t : Shape) (j : Data) (v : Datum) : Type 0 where
  pub shown : ShownUnder older_limits t j v
  pub fits : FitsUnder older_limits t v

-- of JSON that showed a value of the type a reader gives that value, or has no memory
abbrev pub ReadsAsBefore : Shape → Data → Result Value JsonFault → Type 0
ReadsAsBefore t j (Ok w) = (v : Datum) → ShownBefore t j v → datum_of w ≡ v
ReadsAsBefore t j (Err why) = (v : Datum) → ShownBefore t j v → why ≡ fault.Memory
