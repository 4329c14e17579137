-- What the components of a SEQUENCE and the alternatives of a CHOICE of the profile are.
use Rattle.std.specs.Prelude.{◌≡◌, true, ⊤}
use Rattle.asn_values.specs.Shape.{Shape, Demand, must, optional, default, Fields, no_fields, field, Alternatives, no_alternatives, one_of}
use Rattle.asn_values.specs.Profile.{InProfile, good_default}

-- a DEFAULT is one that may stand on the type
abbrev pub IsGoodDemand : Demand → Shape → Type 0
IsGoodDemand must t = ⊤
IsGoodDemand optional t = ⊤
IsGoodDemand (default d) t = good_default t d ≡ true

-- each component has a type of the profile, and no DEFAULT that may not stand on it
abbrev pub AreOfProfile : Fields → Type 0
AreOfProfile no_fields = ⊤
AreOfProfile (field name demand t fs) = InProfile t × IsGoodDemand demand t × AreOfProfile fs

-- each alternative has a type of the profile
abbrev pub AreAllOfProfile : Alternatives → Type 0
AreAllOfProfile no_alternatives = ⊤
AreAllOfProfile (one_of name t alts) = InProfile t × AreAllOfProfile alts
