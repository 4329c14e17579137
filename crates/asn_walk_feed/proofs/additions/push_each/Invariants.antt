use Rattle.std.proofs.Common.{◌≡◌, ◌++◌, map, drop}
use Rattle.std.specs.Option.{option_map}
use Rattle.asn_values.specs.View.{datum_of, fields_of, part_of_field}
use Rattle.asn_walk.specs.Coding.{absent_entries}
use Rattle.asn_walk_feed.proofs.additions.push_each.Given as goal

abbrev pub invariant-loop : goal.invariant-loop
invariant-loop l =
    map (option_map datum_of) l.entries.items ++ absent_entries (fields_of (map part_of_field (drop l.index l.additions)))
    ≡ map (option_map datum_of) l.initial.entries.items ++ absent_entries (fields_of (map part_of_field l.additions))
