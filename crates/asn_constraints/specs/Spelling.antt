-- What a constraint says of spelling alone. A sender of a newer version may have loosened a constraint of values, but
-- its encodings are canonical too: they leave out a DEFAULT and an empty group, last zeros of named bits, and last zeros
-- of a time.
use Rattle.std.specs.Prelude.{◌&&◌, Bool, true, false}
use Rattle.asn_constraints.specs.Constraints.{Presence, any, Constraint, free, both, either, trimmed, time, except, on_components, on_elements, on_alternatives, some_present, unknown, OnComponents, other_components_free, on_component, OnAlternatives, other_alternatives_free, on_alternative}
use Rattle.asn_constraints.specs.View.{OnOne}

-- an item or an alternative that the type has not is not judged
abbrev pub if_known : Constraint → Constraint
if_known c = either unknown c

-- the component may be there or not
abbrev pub may_be_either : Presence → Bool
may_be_either any = true
may_be_either _ = false

abbrev mutual
  -- nothing in it is a constraint of values
  pub is_of_spelling : Constraint → Bool
  is_of_spelling free = true
  is_of_spelling (both c e) = is_of_spelling c && is_of_spelling e
  is_of_spelling (either c e) = is_of_spelling c && is_of_spelling e
  is_of_spelling (trimmed low) = true
  is_of_spelling (time k) = true
  is_of_spelling (except d) = true
  is_of_spelling (on_components cs) = are_of_spelling cs
  is_of_spelling (on_elements c) = is_of_spelling c
  is_of_spelling some_present = true
  is_of_spelling _ = false

  pub are_of_spelling : OnComponents → Bool
  are_of_spelling other_components_free = true
  are_of_spelling (on_component p c cs) = (may_be_either p && is_of_spelling c) && are_of_spelling cs

-- the same of the constraint on one component
abbrev pub is_one_of_spelling : OnOne → Bool
is_one_of_spelling o = may_be_either o.presence && is_of_spelling o.constraint

abbrev mutual
  -- Constraints of values become free. So does a union with such a constraint in it: a newer version may have loosened
  -- the side that a value does not meet.
  pub spelling : Constraint → Constraint
  spelling (both c e) = both (spelling c) (spelling e)
  spelling (either c e) = elim (is_of_spelling c && is_of_spelling e) [ true ↦ either (spelling c) (spelling e) | false ↦ free ]
  spelling (trimmed low) = if_known (trimmed low)
  spelling (time k) = if_known (time k)
  spelling (except d) = if_known (except d)
  spelling (on_components cs) = if_known (on_components (spelling_of_components cs))
  spelling (on_elements c) = if_known (on_elements (spelling c))
  spelling (on_alternatives cs) = if_known (on_alternatives (spelling_of_alternatives cs))
  spelling some_present = if_known some_present
  spelling _ = free

  -- each component may be there or not
  pub spelling_of_components : OnComponents → OnComponents
  spelling_of_components other_components_free = other_components_free
  spelling_of_components (on_component p c cs) = on_component any (spelling c) (spelling_of_components cs)

  -- each alternative may be there, also one after the last
  pub spelling_of_alternatives : OnAlternatives → OnAlternatives
  spelling_of_alternatives (on_alternative c cs) = on_alternative (spelling c) (spelling_of_alternatives cs)
  spelling_of_alternatives _ = other_alternatives_free
