-- The parts of a type are less deep than the type: the reader comes to an end.
use Rattle.std.proofs.Common.{rules, arith, ◌≡◌, ◌<◌, ◌≤◌, ℕ, List, length, get_or, Option, Some, Vec, Global, sym, subst}
use denote.Param.Weighed.{most, at_most}
use Rattle.asn_values.specs.declared.types.Alt.{Alt}
use Rattle.asn_values.specs.declared.types.Field.{Field}
use Rattle.asn_values.specs.declared.types.AsnType.{AsnType, the_lemmas}
use Rattle.asn_values.specs.declared.types.AsnType as asn_type
use Rattle.asn_values.proofs.types.AsnType.TheLaws as type_laws
use Rattle.asn_values.proofs.types.Field.TheLaws as field_laws
use Rattle.asn_values.proofs.types.Alt.TheLaws as alternative_laws

-- the alternatives of a CHOICE
module _ (t : AsnType) (root : Vec Alt Global) (ext : Option (Vec Alt Global)) where
  pub root_smaller : (alts : List Alt) → t ≡ asn_type.Choice root ext → alts ≡ root.items
      → most alternative_laws.the_size alts < type_laws.the_size t
  root_smaller alts e f = rw (e, f) (search (rules, the_lemmas))

  pub added_smaller : (more : Vec Alt Global) (alts : List Alt) → t ≡ asn_type.Choice root ext → ext ≡ Some more
      → alts ≡ more.items → most alternative_laws.the_size alts < type_laws.the_size t
  added_smaller more alts e f g = rw (e, f, g) (search (rules, the_lemmas))

  -- and the type of one of the additions
  pub added_type_smaller : (more : Vec Alt Global) (alts : List Alt) (i : ℕ) (x : Alt) → t ≡ asn_type.Choice root ext
      → ext ≡ Some more → alts ≡ more.items → i < length alts → x ≡ get_or alts i x
      → type_laws.the_size x.ty < type_laws.the_size t
  added_type_smaller more alts i x e f g h k =
      let all : most alternative_laws.the_size alts < type_laws.the_size t = added_smaller more alts e f g in
      let at_place : alternative_laws.the_size (get_or alts i x) ≤ most alternative_laws.the_size alts = at_most alternative_laws.the_size alts i x h in
      let one : alternative_laws.the_size x ≤ most alternative_laws.the_size alts = subst (λ (y : Alt). alternative_laws.the_size y ≤ most alternative_laws.the_size alts) (sym k) at_place in
      let inner : type_laws.the_size x.ty < alternative_laws.the_size x = search (rules, the_lemmas) in
      omega (arith, all, one, inner)

-- the components and the additions of a SEQUENCE
module _ (t : AsnType) (root : Vec Field Global) (ext : Option (Vec Field Global)) where
  pub components_smaller : (fs : List Field) → t ≡ asn_type.Seq root ext → fs ≡ root.items
      → most field_laws.the_size fs < type_laws.the_size t
  components_smaller fs e f = rw (e, f) (search (rules, the_lemmas))

  pub additions_smaller : (more : Vec Field Global) (fs : List Field) → t ≡ asn_type.Seq root ext → ext ≡ Some more
      → fs ≡ more.items → most field_laws.the_size fs < type_laws.the_size t
  additions_smaller more fs e f g = rw (e, f, g) (search (rules, the_lemmas))
