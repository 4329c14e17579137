-- The id of a message.
use Rattle.std.specs.Prelude.{ℤ, codes, Option, option_and_then}
use Rattle.tulvorn.specs.Typed.{Typed, value_named, integer_of}

-- the number at the name `id`
abbrev pub id_in : Typed → Option ℤ
id_in message = option_and_then (λ v. integer_of v.datum) (value_named (codes "id") message)
