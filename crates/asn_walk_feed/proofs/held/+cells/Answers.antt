use Rattle.std.proofs.Common.{◌≡◌, Option, option_map, sym, subst}
use Rattle.asn_values.specs.Measures.{cells}
use Rattle.asn_values.specs.View.{datum_of}
use Rattle.asn_values.specs.declared.value.Value.{Value}
use Rattle.asn_walk_feed.specs.Holding.{entry_cells, counted}
use Rattle.asn_walk_feed.proofs.HeldNodes.{counts_next, one_counted, sequence_counted, list_counted}
use Rattle.asn_walk_feed.proofs.held.+cells.Goals as goal

pub cells-returns-in-Seq : goal.cells-returns-in-Seq
cells-returns-in-Seq t c =
    sequence_counted c.args.value.now c.in-Seq.entries c.deref.result.now c.cells_of_entries.result c.saturating_add-in-Seq.result c.in-Seq.is c.deref.ensures.value c.cells_of_entries.ensures c.saturating_add-in-Seq.ensures

pub cells-returns-in-List : goal.cells-returns-in-List
cells-returns-in-List t c =
    list_counted c.args.value.now c.in-List.elements c.deref-in-List.result.now c.cells_of_elements.result c.saturating_add-in-List.result c.in-List.is c.deref-in-List.ensures.value c.cells_of_elements.ensures c.saturating_add-in-List.ensures

pub cells_of_entries-loop-entry-preserved : goal.cells_of_entries-loop-entry-preserved
cells_of_entries-loop-entry-preserved t c =
    counts_next (option_map datum_of) entry_cells c.args.entries.now c.loop-entry.entry-index c.entry-item.result c.loop-entry.sum c.cells.result c.saturating_add-sum-in-loop-entry.result
    c.loop-entry-test.true c.entry-item.is c.loop-entry.invariant (subst (λ (o : Option Value). c.cells.result ≡ counted (entry_cells (option_map datum_of o))) (sym c.in-Some.is) c.cells.ensures) c.saturating_add-sum-in-loop-entry.ensures

pub cells_of_entries-loop-entry-preserved-in_default : goal.cells_of_entries-loop-entry-preserved-in_default
cells_of_entries-loop-entry-preserved-in_default t c =
    counts_next (option_map datum_of) entry_cells c.args.entries.now c.loop-entry.entry-index c.entry-item.result c.loop-entry.sum 1 c.saturating_add-sum.result
    c.loop-entry-test.true c.entry-item.is c.loop-entry.invariant (subst (λ (o : Option Value). 1 ≡ counted (entry_cells (option_map datum_of o))) (sym c.in_default.is) one_counted) c.saturating_add-sum.ensures

pub cells_of_elements-loop-element-preserved : goal.cells_of_elements-loop-element-preserved
cells_of_elements-loop-element-preserved t c =
    counts_next datum_of cells c.args.elements.now c.loop-element.element-index c.element-item.result c.loop-element.sum c.cells.result c.saturating_add-sum.result
    c.loop-element-test.true c.element-item.is c.loop-element.invariant c.cells.ensures c.saturating_add-sum.ensures
