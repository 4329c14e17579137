use Rattle.std.proofs.Common.{◌≡◌, ◌≤◌, ◌-◌, take, drop, Some}
use Rattle.asn_view.specs.Paths.{value_after, value_along}
use Rattle.asn_message.specs.Views.{seen}
use Rattle.asn_message.proofs.view.MessageView.along.Given as goal

-- the piece begun and what is left of the path go on from the part that was reached
abbrev pub invariant-loop-index : goal.invariant-loop-index
invariant-loop-index l =
    (l.start ≤ l.index)
    × (value_after (take (l.index - l.start) (drop l.start l.path)) (drop l.index l.path) (Some (seen l.here)) ≡ value_along l.path (seen l.self))
