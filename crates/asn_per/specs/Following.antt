-- What is still to be written of the items of a list, by what follows of it.
use Rattle.std.specs.Prelude.{List, ℕ, Option}
use Rattle.asn_bits.specs.Lengths.{joined, general}
use Rattle.asn_rules.specs.Chunks.{Chunk, one}
use Rattle.asn_walk.specs.Writing.{Pushing, Advances}
use Rattle.asn_per.specs.Walk.{per_coding}
use Rattle.asn_per.specs.declared.sizes.Following.{Following}
use Rattle.asn_per.specs.declared.sizes.Following.TheVariants as following

-- the items, or the items under their general length
abbrev pub following_chunks : Following → List (List Chunk) → List Chunk
following_chunks following.Items items = joined items
following_chunks following.Length items = general one items

-- the writer of a list goes on as far as the next items
abbrev pub Proceeds : {Sink : Type 0} → Pushing Sink → Following → ℕ → Sink → Following → Sink → Option ℕ → Type 0
Proceeds push old left before new after count =
    Advances push per_coding (following_chunks old) left before (following_chunks new) after count
