-- How many levels a type has.
use Rattle.std.proofs.Common.{◌≤◌}
use Rattle.std.proofs.lemmas.Bool.{ltb-false}
use Rattle.asn_values.specs.Profile.{InProfile, TooDeep, most_levels}
use Rattle.asn_values.specs.Measures.{depth}
use Rattle.asn_values.specs.Shape.{Shape}

-- a type of the profile has at most 64
pub profile_deep : (t : Shape) → InProfile t → depth t ≤ 64
profile_deep t good = ltb-false most_levels (depth t) (good TooDeep)
