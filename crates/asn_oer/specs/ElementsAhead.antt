-- What is ahead of the reader of a list, as the program holds it: elements, until they are given.
use Rattle.std.specs.Prelude.{ℕ, Option, Some, None}
use Rattle.asn_walk.specs.Ahead.{Ahead, items, end}

abbrev pub ahead_of : Option ℕ → Ahead
ahead_of (Some n) = items n
ahead_of None = end
