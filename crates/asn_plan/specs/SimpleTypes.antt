-- The kinds of type that a set of rules reads by itself.
use Rattle.std.specs.Prelude.{Bool, true, false}
use Rattle.asn_values.specs.Shape.{Shape, sequence, sequence_of, choice}

-- neither SEQUENCE, SEQUENCE OF nor CHOICE
abbrev pub is_simple : Shape → Bool
is_simple (sequence root more) = false
is_simple (sequence_of t s) = false
is_simple (choice root more) = false
is_simple _ = true
