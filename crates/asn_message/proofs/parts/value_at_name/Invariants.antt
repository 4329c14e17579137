use Rattle.std.proofs.Common.{◌≡◌}
use Rattle.asn_message.specs.Views.{left_components}
use Rattle.asn_view.specs.Typed.{value_at_name}
use Rattle.asn_message.proofs.parts.value_at_name.Given as goal

-- what is left decides
abbrev pub invariant-loop-component : goal.invariant-loop-component
invariant-loop-component l =
    value_at_name l.name (left_components l.component-iterator) ≡ value_at_name l.name (left_components l.initial.component-iterator)
