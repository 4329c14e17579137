-- In PER live by units and sealed fields is live chunk by chunk.
use Rattle.std.proofs.Common.{◌≢◌, ◌<◌, ℕ, List, [], ◌∷◌, length, refl, arith}
use Rattle.asn_values.specs.Datum.{Datum}
use Rattle.asn_values.specs.Shape.{Shape}
use Rattle.asn_values.specs.Fits.{Fits}
use Rattle.asn_rules.specs.Chunks.{open_field, utf8_field, ones, flat}
use Rattle.asn_rules.specs.Laws.{LiveByParts}
use Rattle.asn_rules.specs.Live.{BeginsProperly, Free}
use Rattle.asn_rules.specs.Reading.{AllSealed}
use Rattle.asn_rules.proofs.Live.Fronts.{live_iff, sealed-ones, sealed-append}
use Rattle.asn_per.specs.Per.{spelled, filling, per, per_fields, per_whole}
use Rattle.asn_per.proofs.Encodings.NotEmpty.{spelled_not_empty}
use Rattle.asn_per.proofs.Encodings.Spelt.{per_spelt}

-- a complete encoding has the sealed fields of its spelling
pub whole_sealed : (t : Shape) (d : Datum) → Fits t d → AllSealed per_fields (per_whole t d)
whole_sealed t d f =
    let zeros = filling (length (flat spelled (per t d))) in
    sealed-append per_fields (per t d) (ones zeros) (per_spelt t d f).fields (sealed-ones per_fields zeros)

-- each sealed field has a bit
pub some_units : (c : List ℕ) → 0 < length (spelled c)
some_units c = go (spelled c) (spelled_not_empty c)
  where
    go : (xs : List ℕ) → xs ≢ [] → 0 < length xs
    go [] h = absurd (h refl)
    go (x ∷ xs) h = omega arith

-- as the one of a single octet 0
begins_field : BeginsProperly [] (spelled (0 ∷ []))
begins_field = (0, 0 ∷ 0 ∷ 0 ∷ 0 ∷ 0 ∷ 0 ∷ 1 ∷ 0 ∷ 0 ∷ 0 ∷ 0 ∷ 0 ∷ 0 ∷ 0 ∷ 0 ∷ [], refl)

-- so an open field may begin after no bits of it
pub open_starts : Free per_fields open_field []
open_starts = (0 ∷ [], (omega arith, omega arith, (omega arith, tt)), begins_field)

-- and so may a UTF8String
pub utf8_starts : Free per_fields utf8_field []
utf8_starts = (0 ∷ [], (omega arith, omega arith, (omega arith, tt)), begins_field)

-- the two forms of live are one
pub per_live : LiveByParts per_fields per_whole
per_live t h b = live_iff per_fields open_starts utf8_starts some_units per_whole t (whole_sealed t) b
