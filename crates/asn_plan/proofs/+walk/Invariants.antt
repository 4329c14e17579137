use Rattle.std.proofs.Common.{◌≡◌, ◌≤◌, ◌+◌, ◌-◌, ◌*◌, length, drop}
use Rattle.asn_values.specs.Profile.{InProfile}
use Rattle.asn_values.specs.Shape.{Shape}
use Rattle.asn_rules.specs.Languages.{Row}
use Rattle.asn_walk.specs.Reading.{ValuesOf}
use Rattle.asn_plan.specs.declared.plan.Kind.TheVariants as kind
use Rattle.asn_plan.specs.Plans.{IsPlan, BuildsRow, BuiltUpTo}
use Rattle.asn_plan.specs.Words.{before}
use Rattle.asn_plan.proofs.Rows.{ListedUpTo}
use Rattle.asn_plan.proofs.Additions.{AddedUpTo}
use Rattle.asn_plan.proofs.+walk.Given as goal

abbrev pub decreases-walk::build_at : goal.decreases-walk::build_at
decreases-walk::build_at g l = 10 * length l.nodes.now + 1

abbrev pub decreases-component::build_value : goal.decreases-component::build_value
decreases-component::build_value g l = 10 * length l.nodes.now + 2

abbrev pub decreases-component::build_component : goal.decreases-component::build_component
decreases-component::build_component g l = 10 * length l.nodes.now + 3

abbrev pub decreases-components::build_components : goal.decreases-components::build_components
decreases-components::build_components g l = 10 * length l.nodes.now + 4

abbrev pub decreases-components::build_sequence : goal.decreases-components::build_sequence
decreases-components::build_sequence g l = 10 * length l.nodes.now

abbrev pub decreases-components::build_parts : goal.decreases-components::build_parts
decreases-components::build_parts g l = 10 * length l.nodes.now + 8

abbrev pub decreases-components::build_sequences : goal.decreases-components::build_sequences
decreases-components::build_sequences g l = 10 * length l.nodes.now + 1

abbrev pub invariant-components::build_sequences-loop-i : goal.invariant-components::build_sequences-loop-i
invariant-components::build_sequences-loop-i g l =
    ((s : _) (t : Shape) → InProfile t → IsPlan l.nodes t (kind.Sequence l.parts) → BuildsRow g.R.ReadLeaves.rules (g.B.Build.rowed s l.fn.room l.fn.row) (g.B.Build.rowed s l.room l.row) (Row (ValuesOf g.R.ReadLeaves.rules t) l.i) (g.R.ReadLeaves.rules.to_units l.fn.units) (g.R.ReadLeaves.rules.to_units l.units))
    × g.R.ReadLeaves.rules.at_unit l.units

abbrev pub invariant-components::build_components-loop-part : goal.invariant-components::build_components-loop-part
invariant-components::build_components-loop-part g l =
    BuiltUpTo g.R.ReadLeaves.rules (g.B.Build.listed l.fn.room l.room l.entries) l.nodes l.parts l.rest l.fn.presence.left l.fn.presence.bitmap l.presence.left (before g.R.ReadLeaves.rules l.fn.word (g.R.ReadLeaves.rules.to_units l.fn.units)) (before g.R.ReadLeaves.rules l.word (g.R.ReadLeaves.rules.to_units l.units))
    × (l.presence.bitmap ≡ l.fn.presence.bitmap) × g.R.ReadLeaves.rules.at_unit l.units

abbrev pub decreases-components::build_components-loop-part : goal.decreases-components::build_components-loop-part
decreases-components::build_components-loop-part g l = length l.rest

abbrev pub decreases-lists::build_list : goal.decreases-lists::build_list
decreases-lists::build_list g l = 10 * length l.nodes.now

abbrev pub decreases-lists::build_fragments : goal.decreases-lists::build_fragments
decreases-lists::build_fragments g l = 10 * length l.nodes.now + 3

abbrev pub decreases-lists::build_elements : goal.decreases-lists::build_elements
decreases-lists::build_elements g l = 10 * length l.nodes.now + 2

abbrev pub invariant-lists::build_elements-loop-i : goal.invariant-lists::build_elements-loop-i
invariant-lists::build_elements-loop-i g l =
    ((s : _) (t : Shape) → InProfile t → IsPlan l.nodes t l.kind → BuildsRow g.R.ReadLeaves.rules (g.B.Build.rowed s l.fn.room l.fn.row) (g.B.Build.rowed s l.room l.row) (Row (ValuesOf g.R.ReadLeaves.rules t) l.i) (g.R.ReadLeaves.rules.to_units l.fn.units) (g.R.ReadLeaves.rules.to_units l.units))
    × g.R.ReadLeaves.rules.at_unit l.units

abbrev pub invariant-lists::build_fragments-loop-i : goal.invariant-lists::build_fragments-loop-i
invariant-lists::build_fragments-loop-i g l =
    ((t : Shape) → InProfile t → IsPlan l.nodes t l.kind → ListedUpTo g.R.ReadLeaves.rules (g.B.Build.rowed l.fn.room l.room l.row) t (g.R.ReadLeaves.ahead l.fn.fragments) (g.R.ReadLeaves.rules.to_units l.fn.units) (g.R.ReadLeaves.ahead l.fragments) (g.R.ReadLeaves.rules.to_units l.units))
    × g.R.ReadLeaves.is_between l.fragments × g.R.ReadLeaves.rules.at_unit l.units

abbrev pub decreases-choices::build_choice : goal.decreases-choices::build_choice
decreases-choices::build_choice g l = 10 * length l.nodes.now

abbrev pub decreases-open::build_complete : goal.decreases-open::build_complete
decreases-open::build_complete g l = 10 * length l.nodes.now + 2

abbrev pub decreases-open::build_copied : goal.decreases-open::build_copied
decreases-open::build_copied g l = 10 * length l.nodes.now + 3

abbrev pub decreases-open::build_open : goal.decreases-open::build_open
decreases-open::build_open g l = 10 * length l.nodes.now + 4

abbrev pub decreases-extensions::build_addition : goal.decreases-extensions::build_addition
decreases-extensions::build_addition g l = 10 * length l.nodes.now + 5

abbrev pub decreases-extensions::build_open_fields : goal.decreases-extensions::build_open_fields
decreases-extensions::build_open_fields g l = 10 * length l.nodes.now + 6

abbrev pub decreases-extensions::build_additions : goal.decreases-extensions::build_additions
decreases-extensions::build_additions g l = 10 * length l.nodes.now + 7

abbrev pub invariant-extensions::build_open_fields-loop-part : goal.invariant-extensions::build_open_fields-loop-part
invariant-extensions::build_open_fields-loop-part g l =
    ((s : _) → AddedUpTo g.R.ReadLeaves.rules (g.B.Build.listed s l.fn.room l.fn.entries) (g.B.Build.listed s l.room l.entries) l.nodes l.parts (drop l.part-index l.parts) l.fn.presence.left l.fn.presence.bitmap l.presence.left (g.R.ReadLeaves.rules.to_units l.fn.units) (g.R.ReadLeaves.rules.to_units l.units))
    × (l.presence.bitmap ≡ l.fn.presence.bitmap) × g.R.ReadLeaves.rules.at_unit l.units × (l.presence.left ≤ 64)

abbrev pub decreases-choices::build_chosen : goal.decreases-choices::build_chosen
decreases-choices::build_chosen g l = 10 * length l.nodes.now - 1

abbrev pub decreases-lists::build_counted : goal.decreases-lists::build_counted
decreases-lists::build_counted g l = 10 * length l.nodes.now - 1
