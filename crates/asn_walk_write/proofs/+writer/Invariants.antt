use Rattle.std.proofs.Common.{map, length}
use Rattle.asn_values.specs.View.{part_of_field, shape_of}
use Rattle.asn_walk.specs.Writing.{TakesAt}
use Rattle.asn_walk_write.proofs.WriteComponents.{Written, each_bits}
use Rattle.asn_walk_write.proofs.WriteLists.{ElementsUpTo, Fragments}
use Rattle.asn_walk_write.proofs.WriteSequences.{Opened}
use Rattle.asn_walk_write.proofs.+writer.Given as goal

abbrev pub invariant-components::write_components-loop-field : goal.invariant-components::write_components-loop-field
invariant-components::write_components-loop-field g l =
    Written (TakesAt g.S.Sink.stands g.S.Sink.wants_lengths l.level) (each_bits g.R.WriteLeaves.rules) (map part_of_field l.fields) (g.V.Source.entries_left l.fn.entries) l.initial.sink l.sink
    (map part_of_field l.field-iterator.a.rest.now) (g.V.Source.each_left l.field-iterator.b)

abbrev pub invariant-components::write_open_components-loop-field : goal.invariant-components::write_open_components-loop-field
invariant-components::write_open_components-loop-field g l =
    Opened (TakesAt g.S.Sink.stands g.S.Sink.wants_lengths l.level) g.R.WriteLeaves.rules (map part_of_field l.fields) (g.V.Source.entries_left l.fn.entries) l.initial.sink l.sink
    (map part_of_field l.field-iterator.a.rest.now) (g.V.Source.each_left l.field-iterator.b)

abbrev pub invariant-lists::write_list-loop-fragments : goal.invariant-lists::write_list-loop-fragments
invariant-lists::write_list-loop-fragments g l =
    Fragments (TakesAt g.S.Sink.stands g.S.Sink.wants_lengths l.level) g.R.WriteLeaves.rules (shape_of l.element) (g.R.WriteLeaves.rest l.initial.fragments) (g.R.WriteLeaves.rest l.fragments) (g.V.Source.elements_left l.fn.elements) (g.V.Source.elements_left l.left) l.many l.initial.sink l.sink

abbrev pub decreases-lists::write_list-loop-fragments : goal.decreases-lists::write_list-loop-fragments
decreases-lists::write_list-loop-fragments g l = l.many

abbrev pub invariant-lists::write_elements-loop-value : goal.invariant-lists::write_elements-loop-value
invariant-lists::write_elements-loop-value g l = ElementsUpTo (TakesAt g.S.Sink.stands g.S.Sink.wants_lengths l.level) g.R.WriteLeaves.rules (shape_of l.element) (g.V.Source.elements_left l.fn.elements) (g.V.Source.elements_left l.left) l.initial.sink l.sink

abbrev pub decreases-lists::write_elements-loop-value : goal.decreases-lists::write_elements-loop-value
decreases-lists::write_elements-loop-value g l = length (g.V.Source.elements_left l.left)
