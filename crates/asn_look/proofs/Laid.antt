-- JSON in a layout is read as that of the value.
use Rattle.std.proofs.Common.{◌≡◌, subst, List, ℕ, Some}
use Rattle.std.specs.Global.{Global}
use Rattle.std.specs.Prelude.{◌≤◌, Result, Ok, Err, IfOk, String, string_bytes}
use Rattle.serde_json.specs.Data.{Data, depth}
use Rattle.serde_json.specs.Read.{max_depth, read}
use Rattle.asn_values.specs.Datum.{Datum}
use Rattle.asn_values.specs.Shape.{Shape}
use Rattle.asn_json.specs.Written.{json_of}
use Rattle.asn_look.specs.Laying.{ReadsAs}

pub reads_as : {E : Type 0} (r : Result (String Global) E) (t : Shape) (v : Datum) (j : Data) → j ≡ json_of t v
    → IfOk r (λ s. depth j ≤ max_depth → read (string_bytes s) ≡ Some j) → IfOk r (λ s. ReadsAs t v (string_bytes s))
reads_as (Ok s) t v j e h = subst (λ d. depth d ≤ max_depth → read (string_bytes s) ≡ Some d) e h
reads_as (Err x) t v j e h = tt
