use Rattle.std.proofs.Common.{◌≡◌, length}
use Rattle.std.specs.Prelude.{reverse}
use Rattle.asn_values.specs.View.{shape_of}
use Rattle.asn_walk_feed.specs.Keeping.{kept_in}
use Rattle.asn_walk_feed.proofs.kept.kept_in.Given as goal

abbrev pub invariant-loop-node : goal.invariant-loop-node
invariant-loop-node g l =
    kept_in {F = g.row.F.Denot} (reverse l.nodes) (shape_of l.part) ≡ kept_in {F = g.row.F.Denot} (reverse l.fn.stack) (shape_of l.fn.ty)

abbrev pub decreases-loop-node : goal.decreases-loop-node
decreases-loop-node g l = length l.nodes
