-- The parts of a type are less deep than the type: the reader comes to an end.
use Rattle.std.proofs.Common.{rules, ◌≡◌, ◌<◌, List, Some, Vec, Global}
use denote.Param.Weighed.{most}
use Rattle.asn_values.specs.declared.types.Alt.{Alt}
use Rattle.asn_values.specs.declared.types.Field.{Field}
use Rattle.asn_values.specs.declared.types.AsnType.{AsnType, the_lemmas}
use Rattle.asn_values.specs.declared.types.AsnType as asn_type
use Rattle.asn_values.proofs.types.AsnType.TheLaws as type_laws
use Rattle.asn_values.proofs.types.Field.TheLaws as field_laws
use Rattle.asn_values.proofs.types.Alt.TheLaws as alternative_laws

-- the components and the additions of a SEQUENCE
module _ (t : AsnType) (root more : Vec Field Global) (fs : List Field) (e : t ≡ asn_type.Seq root (Some more)) where
  pub root_smaller : fs ≡ root.items → most field_laws.the_size fs < type_laws.the_size t
  root_smaller f = rw (e, f) (search (rules, the_lemmas))

  pub additions_smaller : fs ≡ more.items → most field_laws.the_size fs < type_laws.the_size t
  additions_smaller f = rw (e, f) (search (rules, the_lemmas))

-- the alternatives of a CHOICE
module _ (t : AsnType) (root more : Vec Alt Global) (alts : List Alt) (e : t ≡ asn_type.Choice root (Some more)) where
  pub alternatives_smaller : alts ≡ root.items → most alternative_laws.the_size alts < type_laws.the_size t
  alternatives_smaller f = rw (e, f) (search (rules, the_lemmas))

  pub added_smaller : alts ≡ more.items → most alternative_laws.the_size alts < type_laws.the_size t
  added_smaller f = rw (e, f) (search (rules, the_lemmas))
