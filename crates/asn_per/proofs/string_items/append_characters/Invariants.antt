use Rattle.std.proofs.Common.{◌≤◌, ◌-◌}
use Rattle.asn_values.specs.View.{alphabet_of}
use Rattle.asn_per.specs.Kinds.{Character}
use Rattle.asn_per.specs.Reading.{Appends}
use Rattle.asn_per.proofs.string_items.append_characters.Given as goal

abbrev pub invariant-loop-left : goal.invariant-loop-left
invariant-loop-left l = Appends (Character (alphabet_of l.kind)) (l.count - l.left) l.fn.into.items l.into.items l.initial.cursor l.cursor × (l.left ≤ l.count)

abbrev pub decreases-loop-left : goal.decreases-loop-left
decreases-loop-left l = l.left
