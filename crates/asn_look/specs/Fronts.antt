-- The first of several messages that stand one after the other.
use Rattle.std.specs.Prelude.{◌≡◌, ◌<◌, ◌⊎◌, ℕ, List, length, take}
use Rattle.asn_values.specs.Datum.{Datum}
use Rattle.asn_values.specs.Shape.{Shape}
use Rattle.asn_rules.specs.Answer.{Answer, Ruling, done, max_octets}

-- so many octets are all, or the encoding of a value, which others follow
abbrev pub IsFront : Ruling → Shape → List ℕ → ℕ → Type 0
IsFront r t octets n = (n ≡ length octets)
    ⊎ ((n < length octets) × ((d : Datum) × Answer r t (take max_octets octets) (done d n)))
