use Rattle.std.proofs.Common.{◌≡◌, ◌≤◌, map, drop}
use Rattle.asn_values.specs.Parts.{AreOfProfile}
use Rattle.asn_values.specs.View.{part_of_field, fields_of}
use Rattle.asn_rules.specs.Listed.{bitmap_length}
use Rattle.asn_explain.proofs.components.in_components.Given as goal

-- the components that are left, and the presence bits that they have
abbrev pub invariant-loop-field : goal.invariant-loop-field
invariant-loop-field g l = record {
  of_profile : AreOfProfile (fields_of (map part_of_field (drop l.field-index l.fields)));
  width : l.presence.left ≡ bitmap_length (fields_of (map part_of_field (drop l.field-index l.fields)));
  few : l.presence.left ≤ 64;
  at_unit : g.R.ReadLeaves.rules.at_unit l.units;
}
