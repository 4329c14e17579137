use Rattle.std.proofs.Common.{map}
use Rattle.asn_values.specs.View.{label_of}
use Rattle.asn_per.proofs.Read.ItemIndexes.{IsSought}
use Rattle.asn_per.proofs.items.position_by_numbers.Given as goal

-- the number of the item that is sought lies in the interval
abbrev pub invariant-loop-turn : goal.invariant-loop-turn
invariant-loop-turn l = IsSought (map label_of l.root) l.index 0 l.above l.below

-- the item that is sought is not among those passed, and its number lies in the interval
abbrev pub invariant-loop-position : goal.invariant-loop-position
invariant-loop-position l = IsSought (map label_of l.root) l.index l.position l.above l.below
