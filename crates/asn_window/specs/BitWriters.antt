-- What bits before a writer still have to write.
use Rattle.std.specs.Prelude.{◌++◌, ℕ, List}
use Rattle.asn_bits.specs.Numbers.{bits}
use Rattle.asn_rules.specs.Held.{Held}
use Rattle.asn_window.specs.declared.bit_writer.BitWriter.{BitWriter}
use Rattle.asn_window.specs.OctetWriters.{OctetsStand}

-- with these bits to come after those that wait, all bits are `all`
abbrev pub BitsStand : Held → Held → BitWriter → List ℕ → List ℕ → Type 0
BitsStand start now w coming all = OctetsStand start now w.octets (bits w.count w.pending ++ coming) all

-- the bits `new` were taken, where they were the first of those to come
abbrev pub TakesBits : Held → BitWriter → Held → BitWriter → List ℕ → Type 0
TakesBits old_state old new_state writer new =
    (start : Held) (coming all : List ℕ) → BitsStand start old_state old (new ++ coming) all
    → BitsStand start new_state writer coming all
