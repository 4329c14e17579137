use Rattle.std.proofs.Common.{◌≡◌, ◌≤◌, ◌+◌, length, map, drop}
use Rattle.asn_values.specs.Parts.{AreOfProfile}
use Rattle.asn_values.specs.View.{part_of_field, fields_of}
use Rattle.asn_explain.proofs.components.in_additions.Given as goal

-- the additions that are left, and a presence bit for each
abbrev pub invariant-loop-field : goal.invariant-loop-field
invariant-loop-field g l = record {
  of_profile : AreOfProfile (fields_of (map part_of_field (drop l.field-index l.fields)));
  width : l.field-index + l.presence.left ≡ length l.fields;
  few : l.presence.left ≤ 64;
  at_unit : g.R.ReadLeaves.rules.at_unit l.units;
}
