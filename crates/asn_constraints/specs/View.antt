-- What the constraints of the program stand for.
use Rattle.std.specs.Prelude.{List, [], ◌∷◌, ℕ, ℤ, Bool, map, Option}
use Rattle.asn_values.specs.declared.value.Value.{Value}
use Rattle.asn_values.specs.Datum.{Datum, components, components_of, elements, elements_of}
use Rattle.asn_values.specs.View.{datum_of, entries_seen}
use Rattle.asn_constraints.specs.declared.constraint.Interval.{Interval}
use Rattle.asn_constraints.specs.declared.constraint.Lengths.{Lengths}
use Rattle.asn_constraints.specs.declared.constraint.Presence as presence_declared
use Rattle.asn_constraints.specs.declared.constraint.Presence.TheVariants as presence
use Rattle.asn_constraints.specs.declared.constraint.TimeKind as time_declared
use Rattle.asn_constraints.specs.declared.constraint.TimeKind.TheVariants as time_kind
use Rattle.asn_constraints.specs.declared.constraint.Component as component_declared
use Rattle.asn_constraints.specs.declared.constraint.Constraint as constraint_declared
use Rattle.asn_constraints.specs.declared.constraint.Constraint.TheOpen.{Constraint-F, Component-F}
use Rattle.asn_constraints.specs.declared.constraint.Constraint.TheFolds.{fold-Constraint, fold-Component}
use Rattle.asn_constraints.specs.Times.{TimeKind, utc, generalized}
use Rattle.asn_constraints.specs.Constraints.{Presence, any, must_be, must_not_be, Constraint, free, barred, both, either, numbers, items, lengths, alphabet, trimmed, time, except, on_components, on_elements, on_alternatives, some_present, OnComponents, other_components_free, on_component, OnAlternatives, other_alternatives_barred, on_alternative, entry_meets, meets}

abbrev pub interval_of : Interval → ℤ × ℤ
interval_of i = (i.low, i.high)

abbrev pub lengths_of : Lengths → ℕ × Option ℕ
lengths_of l = (l.low, l.high)

abbrev pub presence_of : presence_declared.Presence → Presence
presence_of presence.Any = any
presence_of presence.Present = must_be
presence_of presence.Absent = must_not_be

abbrev pub time_kind_of : time_declared.TimeKind → TimeKind
time_kind_of time_kind.Utc = utc
time_kind_of time_kind.Generalized = generalized

-- the constraint on a component, taken apart
pub record OnOne : Type 0 where
  pub presence : Presence
  pub constraint : Constraint

abbrev pub on_components_of : List OnOne → OnComponents
on_components_of [] = other_components_free
on_components_of (o ∷ os) = on_component o.presence o.constraint (on_components_of os)

abbrev pub on_alternatives_of : List Constraint → OnAlternatives
on_alternatives_of [] = other_alternatives_barred
on_alternatives_of (c ∷ cs) = on_alternative c (on_alternatives_of cs)

-- one level of a constraint, the constraints inside already seen
abbrev pub constraint_step : Constraint-F Constraint OnOne → Constraint
constraint_step Constraint-F.Free = free
constraint_step Constraint-F.Barred = barred
constraint_step (Constraint-F.Both c d) = both c.value d.value
constraint_step (Constraint-F.Either c d) = either c.value d.value
constraint_step (Constraint-F.Numbers is) = numbers (map interval_of is.items)
constraint_step (Constraint-F.Items ps) = items ps.items
constraint_step (Constraint-F.Lengths ls) = lengths (map lengths_of ls.items)
constraint_step (Constraint-F.Characters is) = alphabet (map interval_of is.items)
constraint_step (Constraint-F.Trimmed low) = trimmed low
constraint_step (Constraint-F.Time k) = time (time_kind_of k)
constraint_step (Constraint-F.Except v) = except (datum_of v)
constraint_step (Constraint-F.Components cs) = on_components (on_components_of cs.items)
constraint_step (Constraint-F.Elements c) = on_elements c.value
constraint_step (Constraint-F.Alternatives cs) = on_alternatives (on_alternatives_of cs.items)
constraint_step Constraint-F.SomePresent = some_present

abbrev pub component_step : Component-F Constraint OnOne → OnOne
component_step c = record { presence = presence_of c.presence; constraint = c.constraint }

abbrev pub constraint_of : constraint_declared.Constraint → Constraint
constraint_of = fold-Constraint Constraint OnOne constraint_step component_step

abbrev pub on_one : component_declared.Component → OnOne
on_one = fold-Component Constraint OnOne constraint_step component_step

-- the constraints on the components of a SEQUENCE and on the alternatives of a CHOICE, as the program's lists have them
abbrev pub components_seen : List component_declared.Component → OnComponents
components_seen cs = on_components_of (map on_one cs)

abbrev pub alternatives_seen : List constraint_declared.Constraint → OnAlternatives
alternatives_seen cs = on_alternatives_of (map constraint_of cs)

-- whether an entry is right
abbrev pub meets_one : OnOne → Option Datum → Bool
meets_one o e = entry_meets o.presence (λ d. meets o.constraint d) e

-- the values of a SEQUENCE and of a SEQUENCE OF, as the program's lists have them
abbrev pub sequence_seen : List (Option Value) → Datum
sequence_seen es = components (components_of (entries_seen es))

abbrev pub list_seen : List Value → Datum
list_seen vs = elements (elements_of (map datum_of vs))
