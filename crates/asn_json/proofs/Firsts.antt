-- The first of the paths of a part is that of the whole.
use Rattle.std.proofs.Common.{◌≡◌, ◌≢◌, ℕ, List, [], ◌∷◌, ◌++◌, Some, slice_get, refl, subst}
use Rattle.asn_json.specs.declared.fault.JsonFault.{JsonFault}
use Rattle.asn_json.specs.declared.fault.JsonFault.TheVariants as fault
use Rattle.serde_json.specs.Data.{Data}
use Rattle.asn_values.specs.Shape.{Shape}
use Rattle.asn_json.specs.Errors.{bad, Refused}
use Rattle.asn_json.specs.Paths.{below}
use Rattle.asn_json.specs.Readers.{FirstPath, TellsFirst}

pub first_below : (step : List ℕ) (paths : List (List ℕ)) (p q : List ℕ) → slice_get paths 0 ≡ Some p → q ≡ step ++ p → slice_get (below step paths) 0 ≡ Some q
first_below step [] p q h e = absurd (cc)
first_below step (x ∷ paths) p q h e =
    let same : x ≡ p = cc in
    rw (e, same) refl

-- others may follow
front : (f : JsonFault) (paths more : List (List ℕ)) → FirstPath paths f → FirstPath (paths ++ more) f
front (fault.Shape path) [] more h = absurd (cc)
front (fault.Shape path) (p ∷ paths) more h = h
front fault.NotOfType paths more h = h
front fault.Memory paths more h = h

pub tells_front : (f : JsonFault) (paths more : List (List ℕ)) → TellsFirst paths f → TellsFirst (paths ++ more) f
tells_front f paths more h = record { told = front f paths more h.told }

-- the first path of a whole value
pub refused_by : (t : Shape) (j : Data) (f : JsonFault) → TellsFirst (bad t j) f → Refused t j f
refused_by t j (fault.Shape path) h = h.told
refused_by t j fault.NotOfType h = absurd h.told
refused_by t j fault.Memory h = tt

-- a path is told, and never that the value does not fit
pub never_of_bounds : (paths : List (List ℕ)) (f : JsonFault) → TellsFirst paths f → f ≢ fault.NotOfType
never_of_bounds paths f h is = let told : FirstPath paths fault.NotOfType = subst (FirstPath paths) is h.told in told
