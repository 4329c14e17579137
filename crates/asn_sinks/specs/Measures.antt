-- What a measure counts.
use Rattle.std.specs.Prelude.{◌≡◌, ◌++◌, ◌-◌, ◌^◌, ℕ, min, List, length}
use Rattle.asn_sinks.specs.declared.measure.Measure.{Measure}

-- how many bits it has counted
abbrev pub counted_bits : Measure → ℕ
counted_bits m = m.bits

-- it has counted these bits, up to the greatest number of 64 bits
abbrev pub Measures : Measure → List ℕ → Type 0
Measures m bits = counted_bits m ≡ min (length bits) (2 ^ 64 - 1)

-- it has counted these bits more
abbrev pub Counts : Measure → Measure → List ℕ → Type 0
Counts old new bits = (taken : List ℕ) → Measures old taken → Measures new (taken ++ bits)
