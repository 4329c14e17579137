use Rattle.std.proofs.Common.{◌≡◌, map, option_map, take}
use Rattle.asn_values.specs.Measures.{cells}
use Rattle.asn_values.specs.View.{datum_of}
use Rattle.asn_walk_feed.specs.Holding.{entry_cells, counted}
use Rattle.asn_walk_feed.specs.Weights.{total}
use Rattle.asn_walk_feed.proofs.held.+cells.Given as goal

-- the cells of the entries that were gone over
abbrev pub invariant-cells_of_entries-loop-entry : goal.invariant-cells_of_entries-loop-entry
invariant-cells_of_entries-loop-entry l = l.sum ≡ counted (total entry_cells (map (option_map datum_of) (take l.entry-index l.entries)))

abbrev pub invariant-cells_of_elements-loop-element : goal.invariant-cells_of_elements-loop-element
invariant-cells_of_elements-loop-element l = l.sum ≡ counted (total cells (map datum_of (take l.element-index l.elements)))
