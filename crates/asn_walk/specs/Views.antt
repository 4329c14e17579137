-- What the program's preambles, indexes and presence bits stand for.
use Rattle.std.specs.Prelude.{◌≡◌, ◌+◌, ◌^◌, ◌/◌, ◌%◌, ◌⊎◌, ℕ, Bool}
use mathlib.Core.Logic.{inl, inr}
use Rattle.asn_bits.specs.Sink.{bit_of}
use Rattle.asn_walk.specs.declared.presence.PresenceBits.{PresenceBits}
use Rattle.asn_walk.specs.declared.leaves.Preamble.{Preamble}
use Rattle.asn_walk.specs.declared.leaves.Index.{Index}
use Rattle.asn_walk.specs.declared.leaves.Index.TheVariants as an_index

-- the extension bit and the presence bitmap
abbrev pub preamble_seen : Preamble → Bool × ℕ
preamble_seen p = (p.extended, p.bitmap)

-- an index in the root, or among the additions
abbrev pub index_seen : Index → ℕ ⊎ ℕ
index_seen (an_index.Root n) = inl n
index_seen (an_index.Added n) = inr n

-- the highest of the presence bits that are left is taken
abbrev pub TakesBit : PresenceBits → PresenceBits → Bool → Type 0
TakesBit old new bit = (new.left + 1 ≡ old.left) × (bit_of bit ≡ old.bitmap / 2 ^ new.left % 2)
