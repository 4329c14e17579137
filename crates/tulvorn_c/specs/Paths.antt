-- Paths to the parts of a type's values, by the type alone: as `value_at_path` of asn_view goes, whatever the value.
use Rattle.std.specs.Prelude.{ℕ, List, [], ◌∷◌, ◌++◌, Option, Some, None, option_map, option_and_then, cond}
use Rattle.std.specs.Option.{option_or}
use Rattle.asn_values.specs.Shape.{Shape, sequence_of}
use Rattle.asn_values.specs.LookUp.{component_named, alternative_named}
use Rattle.asn_view.specs.Paths.{is_separator, index_in, from_root}

-- the type of the component or alternative of that name
abbrev pub shape_named : List ℕ → Shape → Option Shape
shape_named name t =
    option_or (option_map (λ p. p.shape) (component_named name t)) (option_map (λ b. b.shape) (alternative_named name t))

-- that of the elements
abbrev pub element_shape : Shape → Option Shape
element_shape (sequence_of t s) = Some t
element_shape _ = None

abbrev pub shape_at_index : List ℕ → Shape → Option ℕ → Option Shape
shape_at_index piece t (Some i) = element_shape t
shape_at_index piece t None = shape_named piece t

-- what a piece of a path leads to; an empty one stays
abbrev pub shape_at_step : List ℕ → Shape → Option Shape
shape_at_step [] t = Some t
shape_at_step (c ∷ cs) t = shape_at_index (c ∷ cs) t (index_in (c ∷ cs))

-- what the path leads to whose first piece begins with those characters, and goes on so
abbrev pub shape_after : List ℕ → List ℕ → Option Shape → Option Shape
shape_after piece [] t = option_and_then (shape_at_step piece) t
shape_after piece (c ∷ cs) t =
    cond (is_separator c)
    (shape_after [] cs (option_and_then (shape_at_step piece) t)) (shape_after (piece ++ c ∷ []) cs t)

abbrev pub shape_along : List ℕ → Shape → Option Shape
shape_along path t = shape_after [] path (Some t)

abbrev pub shape_at_path : List ℕ → Shape → Option Shape
shape_at_path path t = shape_along (from_root path) t

-- no value of the type has a part at the path, or this one has none
abbrev pub code_without : Option Shape → ℕ
code_without None = 14
code_without (Some t) = 21
