-- What was made of the parts of a SEQUENCE and a CHOICE.
use Rattle.std.specs.Prelude.{◌≡◌, ◌<◌, ◌+◌, ◌++◌, ℕ, List, Option}
use Rattle.asn_values.specs.Datum.{Datum, alternative}
use Rattle.asn_values.specs.Shape.{Fields, Alternatives}
use Rattle.asn_values.specs.Fits.{FitsEach, FitsAlternative}

-- entries were added, one for each of these components, each right for its own
pub record AddsFitting (fs : Fields) (old new : List (Option Datum)) : Type 0 where
  pub added : List (Option Datum)
  pub whole : new ≡ old ++ added
  pub fits : FitsEach fs added

-- a value of one of these alternatives, of which there are n, and the tag of the first is given
pub record IsChosen (alts : Alternatives) (first n : ℕ) (d : Datum) : Type 0 where
  pub index : ℕ
  pub value : Datum
  pub inside : index < n
  pub same : d ≡ alternative (first + index) value
  pub fits : FitsAlternative alts index value
