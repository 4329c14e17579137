use Rattle.std.proofs.Common.{◌≡◌, length, map, option_map, take, drop}
use Rattle.std.specs.List.{AllByRecursion}
use Rattle.asn_values.specs.Fits.{Fits}
use Rattle.asn_values.specs.Parts.{AreOfProfile}
use Rattle.asn_values.specs.View.{shape_of, datum_of, part_of_field, fields_of}
use Rattle.asn_examples.specs.Made.{AddsFitting}
use Rattle.asn_examples.proofs.parts.+some_value.Given as goal

-- there are entries for the components so far, and those that are left are of the profile
abbrev pub invariant-push_entries-loop-field : goal.invariant-push_entries-loop-field
invariant-push_entries-loop-field l = record {
  left : AreOfProfile (fields_of (map part_of_field (drop l.field-index l.fields)));
  made : AddsFitting (fields_of (map part_of_field (take l.field-index l.fields))) (map (option_map datum_of) l.initial.entries.items) (map (option_map datum_of) l.entries.items);
}

-- there are as many values as were asked for, each of the type
abbrev pub invariant-elements-loop-i : goal.invariant-elements-loop-i
invariant-elements-loop-i l = record {
  count : length l.values.items ≡ l.i;
  fit : AllByRecursion (λ d. Fits (shape_of l.element) d) (map datum_of l.values.items);
}
