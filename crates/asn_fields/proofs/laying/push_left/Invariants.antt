use Rattle.std.proofs.Common.{map, take}
use Rattle.asn_values.specs.View.{datum_of}
use Rattle.asn_fields.specs.Tiles.{Lays}
use Rattle.asn_fields.proofs.laying.push_left.Given as goal

-- a field was added for each value so far
abbrev pub invariant-loop-value : goal.invariant-loop-value
invariant-loop-value l = Lays l.initial.fields.items l.at (map datum_of (take l.value-index l.values)) l.fields.items
