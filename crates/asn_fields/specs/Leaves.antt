-- The parts of a value that have no parts themselves.
use Rattle.std.specs.Prelude.{◌++◌, List, [], ◌∷◌, Option, Some, None}
use Rattle.asn_values.specs.Datum.{Datum, components, elements, alternative, Components, no_components, absent, present, Elements, no_elements, element}

abbrev mutual
  -- of a SEQUENCE, a SEQUENCE OF and a CHOICE those of what is inside, in order; of another value itself
  pub leaves : Datum → List Datum
  leaves (components cs) = leaves_present cs
  leaves (elements es) = leaves_each es
  leaves (alternative t d) = leaves d
  leaves d = d ∷ []

  -- of the components that are there
  pub leaves_present : Components → List Datum
  leaves_present no_components = []
  leaves_present (absent cs) = leaves_present cs
  leaves_present (present d cs) = leaves d ++ leaves_present cs

  pub leaves_each : Elements → List Datum
  leaves_each no_elements = []
  leaves_each (element d es) = leaves d ++ leaves_each es

-- of one component, if it is there
abbrev pub leaves_in : Option Datum → List Datum
leaves_in None = []
leaves_in (Some d) = leaves d
