-- What the readers of parts of a JSON value say: the first error, or that there is none and what is shown.
use Rattle.std.specs.Prelude.{◌≡◌, ◌++◌, ℕ, List, [], Some, Option, map, slice_get, string_bytes, ⊤}
use Rattle.serde_json.specs.Data.{Data, Items, Members}
use Rattle.asn_values.specs.Datum.{Datum}
use Rattle.asn_values.specs.Shape.{Shape, Fields, Alternatives}
use Rattle.asn_values.specs.View.{Part}
use Rattle.asn_json.specs.Errors.{errors, field_errors, entry_errors, element_errors, errors_at}
use Rattle.asn_json.specs.Shown.{value_of, entries, entry_of, item_list, value_at}
use Rattle.asn_json.specs.declared.fault.JsonFault.{JsonFault}
use Rattle.asn_json.specs.declared.fault.JsonFault.TheVariants as fault

-- the fault tells the first of these paths; a reader of a part has no other but Memory
abbrev pub FirstPath : List (List ℕ) → JsonFault → Type 0
FirstPath paths (fault.Shape path) = slice_get paths 0 ≡ Some (string_bytes path)
FirstPath paths fault.NotOfType = ⊥
FirstPath paths fault.Memory = ⊤

pub record TellsFirst (paths : List (List ℕ)) (f : JsonFault) : Type 0 where
  pub told : FirstPath paths f

-- j has no error of shape, and v is what it shows
pub record Shows (t : Shape) (j : Data) (v : Datum) : Type 0 where
  pub no_errors : errors t j ≡ []
  pub is : v ≡ value_of t j

-- the same of the entries of components, which stand after those given
pub record ShowsAfter (fs : Fields) (ms : Members) (given es : List (Option Datum)) : Type 0 where
  pub no_errors : field_errors fs ms ≡ []
  pub is : es ≡ given ++ entries fs ms

-- of one entry, where this was found at the component's name
abbrev pub errors_of_entry : Part → Option Data → List (List ℕ)
errors_of_entry p found = entry_errors p.name p.demand (λ j. errors p.shape j) found

pub record ShowsEntry (p : Part) (found : Option Data) (e : Option Datum) : Type 0 where
  pub no_errors : errors_of_entry p found ≡ []
  pub is : e ≡ entry_of p.demand (λ j. value_of p.shape j) found

-- of the elements of an array
pub record ShowsElements (t : Shape) (js : Items) (vs : List Datum) : Type 0 where
  pub no_errors : element_errors (λ e. errors t e) 0 js ≡ []
  pub is : vs ≡ map (λ e. value_of t e) (item_list js)

-- of the value of the alternative at an index
pub record ShowsAt (alts : Alternatives) (p : ℕ) (j : Data) (v : Datum) : Type 0 where
  pub no_errors : errors_at alts p j ≡ []
  pub is : v ≡ value_at alts p j
