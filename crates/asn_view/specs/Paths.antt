-- Paths to the parts of a value.
use Rattle.std.specs.Prelude.{ℕ, ◌+◌, ◌-◌, ◌*◌, ◌==◌, ◌||◌, Bool, List, [], ◌∷◌, ◌++◌, length, slice_get, Option, Some, None, option_and_then, nat_le, cond}
use Rattle.std.specs.Char.{is_ascii_digit}
use Rattle.asn_view.specs.Typed.{Typed, value_named, elements_in}

-- a path is cut at `.`, `[` and `]`
abbrev pub is_separator : ℕ → Bool
is_separator c = (c == 46) || (c == 91) || (c == 93)

-- the number n with these decimal digits after its own
abbrev pub with_digits : ℕ → List ℕ → Option ℕ
with_digits n [] = Some n
with_digits n (c ∷ cs) = cond (is_ascii_digit c) (with_digits (10 * n + (c - 48)) cs) None

-- a piece of at most nine digits is the index of an element
abbrev pub index_in : List ℕ → Option ℕ
index_in piece = cond (nat_le (length piece) 9) (with_digits 0 piece) None

-- the element of that index, or where the piece is none what has that name
abbrev pub value_at_index : List ℕ → Typed → Option ℕ → Option Typed
value_at_index piece v (Some i) = slice_get (elements_in v) i
value_at_index piece v None = value_named piece v

-- what a piece of a path leads to; an empty one stays
abbrev pub value_at_step : List ℕ → Typed → Option Typed
value_at_step [] v = Some v
value_at_step (c ∷ cs) v = value_at_index (c ∷ cs) v (index_in (c ∷ cs))

-- what the path leads to whose first piece begins with those characters, and goes on so
abbrev pub value_after : List ℕ → List ℕ → Option Typed → Option Typed
value_after piece [] v = option_and_then (value_at_step piece) v
value_after piece (c ∷ cs) v =
    cond (is_separator c)
    (value_after [] cs (option_and_then (value_at_step piece) v)) (value_after (piece ++ c ∷ []) cs v)

abbrev pub value_along : List ℕ → Typed → Option Typed
value_along path v = value_after [] path (Some v)

-- the path without a `$` in front
abbrev pub from_root : List ℕ → List ℕ
from_root [] = []
from_root (c ∷ cs) = cond (c == 36) cs (c ∷ cs)

-- what a path leads to that may begin with a `$`
abbrev pub value_at_path : List ℕ → Typed → Option Typed
value_at_path path v = value_along (from_root path) v
