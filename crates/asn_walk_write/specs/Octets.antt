-- The octets of the complete encoding of a value.
use Rattle.std.specs.Prelude.{◌≤◌, ℕ, List, length}
use Rattle.asn_values.specs.declared.types.AsnType.{AsnType}
use Rattle.asn_values.specs.Datum.{Datum}
use Rattle.asn_values.specs.Fits.{Fits}
use Rattle.asn_values.specs.Profile.{InProfile}
use Rattle.asn_values.specs.View.{shape_of}
use Rattle.asn_rules.specs.Answer.{max_octets}
use Rattle.asn_walk.specs.Coding.{Coding}

abbrev pub octets_of : Coding → AsnType → Datum → List ℕ
octets_of c t d = c.complete (c.code (shape_of t) d)

-- a value is one of a type of the profile, and its encoding is not too long
pub record IsEncodable (c : Coding) (t : AsnType) (d : Datum) : Type 0 where
  pub of_profile : InProfile (shape_of t)
  pub of_type : Fits (shape_of t) d
  pub within : length (octets_of c t d) ≤ max_octets
