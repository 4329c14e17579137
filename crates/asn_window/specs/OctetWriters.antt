-- What octets before a writer, and the bits after them, still have to write.
use Rattle.std.specs.Prelude.{◌++◌, ℕ, List}
use Rattle.asn_bits.specs.Numbers.{bits, unpacked}
use Rattle.asn_rules.specs.Held.{Held}
use Rattle.asn_window.specs.declared.octet_writer.OctetWriter.{OctetWriter}
use Rattle.asn_window.specs.Delivery.{Delivers}

-- with these bits to come after the octets that wait, all bits are `all`
abbrev pub OctetsStand : Held → Held → OctetWriter → List ℕ → List ℕ → Type 0
OctetsStand start now w coming all = Delivers start now w.sent w.failed (unpacked w.buffer ++ coming) all

-- the bits `new`, whole octets, were taken, where they were the first of those to come
abbrev pub TakesWhole : Held → OctetWriter → Held → OctetWriter → List ℕ → Type 0
TakesWhole old_state old new_state writer new =
    (start : Held) (coming all : List ℕ) → OctetsStand start old_state old (new ++ coming) all
    → OctetsStand start new_state writer coming all

-- the bits `new` were taken after the low k bits of p, and then the low l bits of q wait
abbrev pub TakesAfter : Held → OctetWriter → ℕ → ℕ → List ℕ → Held → OctetWriter → ℕ → ℕ → Type 0
TakesAfter old_state old k p new new_state writer l q =
    (start : Held) (coming all : List ℕ) → OctetsStand start old_state old (bits k p ++ (new ++ coming)) all
    → OctetsStand start new_state writer (bits l q ++ coming) all
