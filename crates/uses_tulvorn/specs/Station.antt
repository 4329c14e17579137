-- The station of a track or a log.
use Rattle.std.specs.Prelude.{ℤ, codes, Option, option_and_then}
use Rattle.tulvorn.specs.Typed.{Typed, value_named, integer_of}

-- the number at the name `station`
abbrev pub station_in : Typed → Option ℤ
station_in message = option_and_then (λ v. integer_of v.datum) (value_named (codes "station") message)
