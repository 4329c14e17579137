use Rattle.std.proofs.Common.{◌+◌, length}
use Rattle.asn_values.specs.View.{size_range_of, alphabet_of}
use Rattle.asn_per.specs.Kinds.{Character}
use Rattle.asn_per.specs.RowsAhead.{ahead_of, IsBetween}
use Rattle.asn_per.proofs.Read.ListsAhead.{Going, steps_left}
use Rattle.asn_per.proofs.string_reader.read_characters.Given as goal

abbrev pub invariant-loop-count : goal.invariant-loop-count
invariant-loop-count l = Going (Character (alphabet_of l.kind)) (size_range_of l.size) l.fn.cursor (ahead_of l.fragments) l.characters.items l.cursor × IsBetween l.fragments

abbrev pub decreases-loop-count : goal.decreases-loop-count
decreases-loop-count l = steps_left (ahead_of l.fragments) + length l.cursor
