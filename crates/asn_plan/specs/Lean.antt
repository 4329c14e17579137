-- A type without the components that have no units, whose spellings are the same. With `single`, the same by rules that spell
-- the only value of a type by nothing and an item by its index.
use Rattle.std.specs.Prelude.{◌≡◌, Bool, true, false, IfSome}
use Rattle.asn_values.specs.View.{Part, shape_of}
use Rattle.asn_values.specs.Shape.{Shape, Demand, enumerated, sequence, sequence_of, choice, Fields, no_fields, field, must, default, MoreFields, closed, marked, Alternatives, no_alternatives, one_of, MoreAlternatives, closed_choice, marked_choice}
use Rattle.asn_plan.specs.InOrder.{numbered_if}
use Rattle.asn_plan.specs.Nothing.{has_nothing}
use Rattle.asn_plan.specs.declared.lean.Leans.{Leans}

abbrev mutual
  pub lean : Bool → Shape → Shape
  lean single (enumerated root more) = enumerated (numbered_if single root) more
  lean single (sequence root more) = sequence (lean_root single root) (lean_more single more)
  lean single (sequence_of t s) = sequence_of (lean single t) s
  lean single (choice root more) = choice (lean_alternatives single root) (lean_others single more)
  lean single t = t

  -- the components of a root, without those that have to be there and have no units
  pub lean_root : Bool → Fields → Fields
  lean_root single no_fields = no_fields
  lean_root single (field name must t fs) =
      elim (has_nothing single t) [
        | true ↦ lean_root single fs
        | false ↦ field name must (lean single t) (lean_root single fs)
      ]
  lean_root single (field name (default d) t fs) = field name (default d) (lean false t) (lean_root single fs)
  lean_root single (field name demand t fs) = field name demand (lean single t) (lean_root single fs)

  -- extension additions, none left out
  pub lean_each : Bool → Fields → Fields
  lean_each single no_fields = no_fields
  lean_each single (field name (default d) t fs) = field name (default d) (lean false t) (lean_each single fs)
  lean_each single (field name demand t fs) = field name demand (lean single t) (lean_each single fs)

  pub lean_more : Bool → MoreFields → MoreFields
  lean_more single closed = closed
  lean_more single (marked fs) = marked (lean_each single fs)

  pub lean_alternatives : Bool → Alternatives → Alternatives
  lean_alternatives single no_alternatives = no_alternatives
  lean_alternatives single (one_of name t alts) = one_of name (lean single t) (lean_alternatives single alts)

  pub lean_others : Bool → MoreAlternatives → MoreAlternatives
  lean_others single closed_choice = closed_choice
  lean_others single (marked_choice alts) = marked_choice (lean_alternatives single alts)

-- whether items are numbered in the type of such a component: not where an item is its DEFAULT
abbrev pub is_single : Bool → Demand → Bool
is_single single (default d) = false
is_single single demand = single

-- the types, where there are some, are what the type is without such components
abbrev pub AreLean : Leans → Shape → Type 0
AreLean leans t =
    IfSome leans.any (λ l. shape_of l ≡ lean false t)
    × IfSome leans.single (λ l. shape_of l ≡ lean true t)

-- whether the part is a component that has to be there and has no units
abbrev pub is_left_out : Bool → Part → Bool
is_left_out single p = are_left_out p.demand p.shape
  where
    are_left_out : Demand → Shape → Bool
    are_left_out must t = has_nothing single t
    are_left_out demand t = false
