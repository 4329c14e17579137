use Rattle.std.proofs.Common.{◌≡◌, map}
use Rattle.serde_json.specs.View.{members_view}
use Rattle.asn_values.specs.View.{fields_of, part_of_field, more_fields_of}
use Rattle.asn_json.specs.Errors.{unknown_errors}
use Rattle.asn_json.specs.Shown.{component_names}
use Rattle.asn_json.proofs.read.check_keys.Given as goal

-- the keys passed are known
abbrev pub invariant-loop-key : goal.invariant-loop-key
invariant-loop-key l =
    unknown_errors (component_names (fields_of (map part_of_field l.root)) (more_fields_of l.ext)) (members_view l.key-iterator)
    ≡ unknown_errors (component_names (fields_of (map part_of_field l.root)) (more_fields_of l.ext)) (members_view l.object.entries)
