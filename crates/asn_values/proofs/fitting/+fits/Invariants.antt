use Rattle.std.proofs.Common.{◌↔◌, map, option_map, drop}
use Rattle.std.specs.List.{AllByRecursion}
use Rattle.asn_values.specs.Received.{FitsBy, FitsEachBy}
use Rattle.asn_values.specs.View.{shape_of, datum_of, fields_of, part_of_field}
use Rattle.asn_values.proofs.fitting.+fits.Given as goal

-- the entries fit where those that are still to be looked at do
abbrev pub invariant-fields_have-loop-index : goal.invariant-fields_have-loop-index
invariant-fields_have-loop-index l =
    FitsEachBy l.unknown (fields_of (map part_of_field (drop l.index l.fields))) (map (option_map datum_of) (drop l.index l.entries))
    ↔ FitsEachBy l.unknown (fields_of (map part_of_field l.fields)) (map (option_map datum_of) l.entries)

-- all elements fit where those that are still to be looked at do
abbrev pub invariant-elements_fit-loop-value : goal.invariant-elements_fit-loop-value
invariant-elements_fit-loop-value l =
    AllByRecursion (λ d. FitsBy l.unknown (shape_of l.element) d) (map datum_of (drop l.value-index l.elements)) ↔ AllByRecursion (λ d. FitsBy l.unknown (shape_of l.element) d) (map datum_of l.elements)
