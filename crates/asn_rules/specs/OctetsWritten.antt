-- What the writers of whole octets write.
use Rattle.std.specs.Prelude.{◌≡◌, List, ◌∷◌, ℕ, Bool, true, false, nat_lt, Option, Some, None, ◌++◌, length, Result, OnOk}
use Rattle.asn_bits.specs.Numbers.{padding, unpacked}
use Rattle.asn_bits.specs.Sink.{bit_of}

-- a writer that gives no error has added these bits to a sink
abbrev pub AddsBits : {A E : Type 0} → Result A E → List ℕ → List ℕ → List ℕ → Type 0
AddsBits result old new bs = OnOk result (new ≡ old ++ bs)

-- a writer that gives no error has added the bits of these octets to a sink
abbrev pub Adds : {A E : Type 0} → Result A E → List ℕ → List ℕ → List ℕ → Type 0
Adds result old new os = AddsBits result old new (unpacked os)

-- how many octets of 1, 2, 4 and 8 hold the numbers up to g
abbrev pub fixed_octets : ℕ → ℕ
fixed_octets g =
    elim (nat_lt g 256) [ true ↦ 1 | false ↦ elim (nat_lt g 65536) [ true ↦ 2 | false ↦ elim (nat_lt g 4294967296) [ true ↦ 4 | false ↦ 8 ] ] ]

-- bits, and the zeros that fill up their octets
abbrev pub filled : List ℕ → List ℕ
filled bs = bs ++ padding (length bs)

-- bits after one more, where there is one
abbrev pub flagged : Option Bool → List ℕ → List ℕ
flagged None bs = bs
flagged (Some b) bs = bit_of b ∷ bs
