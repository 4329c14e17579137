use Rattle.std.proofs.Common.{◌≡◌, ◌≤◌, ◌+◌, length, map, drop}
use Rattle.asn_values.specs.Parts.{AreOfProfile}
use Rattle.asn_values.specs.View.{part_of_field, fields_of}
use Rattle.asn_rules.specs.Listed.{bitmap_length}
use Rattle.asn_fields.proofs.+walk.Given as goal

-- the components that are left, and the presence bits that they have
abbrev pub invariant-sequences::components-loop-field : goal.invariant-sequences::components-loop-field
invariant-sequences::components-loop-field g l = record {
  of_profile : AreOfProfile (fields_of (map part_of_field (drop l.field-index l.fields)));
  width : l.presence.left ≡ bitmap_length (fields_of (map part_of_field (drop l.field-index l.fields)));
  few : l.presence.left ≤ 64;
  at_unit : g.R.ReadLeaves.rules.at_unit l.units;
}

-- the additions that are left, and a presence bit for each
abbrev pub invariant-sequences::added_fields-loop-field : goal.invariant-sequences::added_fields-loop-field
invariant-sequences::added_fields-loop-field g l = record {
  of_profile : AreOfProfile (fields_of (map part_of_field (drop l.field-index l.fields)));
  width : l.field-index + l.presence.left ≡ length l.fields;
  few : l.presence.left ≤ 64;
  at_unit : g.R.ReadLeaves.rules.at_unit l.units;
}

-- the units stand in front of an element
abbrev pub invariant-lists::elements-loop-index : goal.invariant-lists::elements-loop-index
invariant-lists::elements-loop-index g l = g.R.ReadLeaves.rules.at_unit l.units

-- the units stand where a reader may begin, and a length or the end is next
abbrev pub invariant-lists::list-loop : goal.invariant-lists::list-loop
invariant-lists::list-loop g l = g.R.ReadLeaves.rules.at_unit l.units × g.R.ReadLeaves.is_between l.fragments
