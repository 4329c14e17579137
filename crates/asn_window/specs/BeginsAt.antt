-- An open type field is begun at a level.
use Rattle.std.specs.Prelude.{◌≡◌, ◌++◌, ℕ, suc, List, ◌∷◌, length}
use Rattle.asn_bits.specs.Numbers.{unpacked}
use Rattle.asn_window.specs.declared.fragments.Fragments.{Fragments}
use Rattle.asn_sinks.specs.declared.sink.Framing.{Framing}
use Rattle.asn_window.specs.declared.bit_writer.BitWriter.{BitWriter}
use Rattle.asn_rules.specs.Held.{Held}
use Rattle.asn_window.specs.Fragmented.{Comes}
use Rattle.asn_sinks.specs.Sink.{framed}
use Rattle.asn_window.specs.BitWriters.{BitsStand}

-- its length is told, and then its content is to come, and after it what follows it
abbrev pub BeginsAt : Held → Fragments → BitWriter → ℕ → Framing → ℕ → Held → Fragments → BitWriter → Type 0
BeginsAt old_state old_fragments old level framing n new_state fragments writer =
    (start : Held) (around : List (List ℕ)) (os next all : List ℕ) → length os ≡ n
    → Comes (λ b. BitsStand start old_state old b all) old_fragments level around (framed framing os ++ next)
    → Comes (λ b. BitsStand start new_state writer b all) fragments (suc level) (next ∷ around) (unpacked os)
