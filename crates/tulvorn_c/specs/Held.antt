-- What a handle holds, as its callers see it.
use Rattle.std.specs.Prelude.{ℕ, List, Option, Some, None, option_map, unwrap_or}
use Rattle.asn_values.specs.Datum.{Datum}
use Rattle.asn_values.specs.Shape.{Shape}
use Rattle.asn_values.specs.View.{shape_of, datum_of}
use Rattle.asn_view.specs.Typed.{Typed, typed}
use Rattle.asn_constraints.specs.Constraints.{Constraint, free}
use Rattle.asn_constraints.specs.View.{constraint_of}
use Rattle.asn_module.specs.Accepted.{ModuleTypes}
use Rattle.asn_newer.specs.Reading.{skipped_seen}
use Rattle.asn_newer.specs.Skipped as fields
use Rattle.asn_module.specs.ModuleView.{types_view}
use Rattle.tulvorn_c.specs.declared.held.HeldType.{HeldType}
use Rattle.tulvorn_c.specs.declared.object.Object.{Object}
use Rattle.tulvorn_c.specs.declared.object.Object.TheVariants.{Module, Checked, Value, Octets, Skipped}

-- a type and the constraint on its values
pub record Constrained : Type 0 where
  pub shape : Shape
  pub constraint : Constraint

abbrev pub constrained_of : HeldType → Constrained
constrained_of ty = record {
  shape = shape_of ty.checked;
  constraint = unwrap_or (option_map (λ c. constraint_of c.value) ty.constraint) free;
}

-- a value with its type, and the constraint of the type
pub record Valued : Type 0 where
  pub value : Typed
  pub constraint : Constraint

abbrev pub value_of : Constrained → Datum → Valued
value_of t d = record { value = typed t.shape d; constraint = t.constraint }

-- the module, its names and their types
abbrev pub held_module : Option Object → Option ModuleTypes
held_module (Some (Module held)) = Some (types_view held.value.module)
held_module _ = None

-- the type with its constraint, and the type alone
abbrev pub held_constrained : Option Object → Option Constrained
held_constrained (Some (Checked ty)) = Some (constrained_of ty)
held_constrained _ = None

abbrev pub held_type : Option Object → Option Shape
held_type o = option_map (λ t. t.shape) (held_constrained o)

-- the value with its type and the constraint of this, and without it
abbrev pub held_valued : Option Object → Option Valued
held_valued (Some (Value ty value)) = Some (value_of (constrained_of ty) (datum_of value))
held_valued _ = None

abbrev pub held_value : Option Object → Option Typed
held_value o = option_map (λ v. v.value) (held_valued o)

-- the octets
abbrev pub held_octets : Option Object → Option (List ℕ)
held_octets (Some (Octets octets)) = Some octets.items
held_octets _ = None

-- the fields that a type has not, in the order in which they stand in the message
abbrev pub held_skipped : Option Object → Option (List fields.Skipped)
held_skipped (Some (Skipped skipped)) = Some (skipped_seen skipped.items)
held_skipped _ = None
