-- Where the reading of a value stops.
use Rattle.std.specs.Prelude.{⊤}
use Rattle.asn_values.specs.Profile.{InProfile}
use Rattle.asn_values.specs.View.{shape_of}
use Rattle.asn_explain.specs.declared.parts.Place.{Place}
use Rattle.asn_explain.specs.declared.parts.Place.TheVariants as place

-- a part in which it stops is of the profile
abbrev pub IsGood : Place → Type 0
IsGood (place.Part ty) = InProfile (shape_of ty.now)
IsGood (place.Sealed ty octets) = InProfile (shape_of ty.now)
IsGood place.Here = ⊤
IsGood place.After = ⊤

-- in front of a part, and after the value, the units stand where a reader may begin
abbrev pub Stands : Type 0 → Place → Type 0
Stands at_unit (place.Part ty) = at_unit
Stands at_unit (place.Sealed ty octets) = ⊤
Stands at_unit place.Here = ⊤
Stands at_unit place.After = at_unit
