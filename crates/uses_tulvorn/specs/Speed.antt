-- The speed of a message.
use Rattle.std.specs.Prelude.{ℤ, codes, Option, option_and_then}
use Rattle.tulvorn.specs.Paths.{value_at_path}
use Rattle.tulvorn.specs.Typed.{Typed, integer_of}

-- the number at `core.speed`
abbrev pub speed_in : Typed → Option ℤ
speed_in message = option_and_then (λ v. integer_of v.datum) (value_at_path (codes "core.speed") message)
