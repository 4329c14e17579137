use Rattle.std.proofs.Common.{◌≡◌, ◌≤◌, ◌-◌, take, drop, Some}
use Rattle.asn_values.specs.View.{shape_of}
use Rattle.tulvorn_c.specs.Paths.{shape_after, shape_along}
use Rattle.tulvorn_c.proofs.paths.along.Given as goal

-- the piece begun and what is left of the path go on from the type that was reached
abbrev pub invariant-loop-index : goal.invariant-loop-index
invariant-loop-index l =
    (l.start ≤ l.index)
    × (shape_after (take (l.index - l.start) (drop l.start l.path)) (drop l.index l.path) (Some (shape_of l.here)) ≡ shape_along l.path (shape_of l.ty))
