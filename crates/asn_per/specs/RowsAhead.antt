-- What is ahead of the reader of a list, as the program holds it.
use Rattle.std.specs.Prelude.{◌≡◌, ◌*◌, [], ⊤, ℕ, List, Option}
use Rattle.asn_bits.specs.LengthBits.{BegunLengths, is_closed}
use Rattle.asn_per.specs.declared.sizes.Fragments.{Fragments}
use Rattle.asn_per.specs.declared.sizes.Fragments.TheVariants as fragments
use Rattle.asn_walk.specs.Ahead.{Ahead, items, lengths, end, Next}
use Rattle.asn_per.specs.Per.{per_fields}

-- after the blocks that were read
abbrev pub lengths_of : BegunLengths → Ahead
lengths_of l = lengths l.counts (16384 * l.blocks) (is_closed l.blocks)

abbrev pub ahead_of : Fragments → Ahead
ahead_of (fragments.Items n) = items n
ahead_of (fragments.Lengths l) = lengths_of l
ahead_of fragments.End = end

-- no bit of a length that is ahead was read
abbrev pub IsBetween : Fragments → Type 0
IsBetween (fragments.Lengths l) = l.bits ≡ []
IsBetween _ = ⊤

-- a reader of a list goes on as far as the next items
abbrev pub GoesOn : Fragments → Option ℕ → Fragments → List ℕ → List ℕ → Type 0
GoesOn old count new before after = Next per_fields (ahead_of old) count (ahead_of new) before after
