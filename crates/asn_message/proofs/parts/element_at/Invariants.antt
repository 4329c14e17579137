use Rattle.std.proofs.Common.{◌≡◌, ◌-◌, slice_get}
use Rattle.asn_message.specs.Views.{left_elements}
use Rattle.asn_message.proofs.parts.element_at.Given as goal

-- the element is among those that are left, after as many as are still to be passed
abbrev pub invariant-loop-passed : goal.invariant-loop-passed
invariant-loop-passed l =
    slice_get (left_elements l.fn.elements) l.index ≡ slice_get (left_elements l.elements) (l.index - l.passed)
