use Rattle.std.proofs.Common.{◌≤◌, ◌-◌}
use Rattle.asn_values.specs.View.{alphabet_of}
use Rattle.asn_per.specs.Kinds.{Character}
use Rattle.asn_per.specs.SingleItems.{TakesItems}
use Rattle.asn_per.proofs.item_runs.take_characters.Given as goal

abbrev pub invariant-loop-count : goal.invariant-loop-count
invariant-loop-count l = TakesItems (Character (alphabet_of l.kind)) l.count l.fn.into.items l.into.items l.initial.cursor l.cursor × (l.count ≤ l.there)

abbrev pub decreases-loop-count : goal.decreases-loop-count
decreases-loop-count l = l.there - l.count
