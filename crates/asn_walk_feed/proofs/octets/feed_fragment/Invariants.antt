use Rattle.std.proofs.Common.{◌≡◌, ◌≤◌, ℕ, List, length}
use Rattle.asn_walk_feed.specs.Feeding.{Ticked}
use Rattle.asn_walk_feed.specs.Octets.{OctetsGoOn}
use Rattle.asn_walk_feed.proofs.octets.feed_fragment.Given as goal

abbrev pub invariant-loop-octets : goal.invariant-loop-octets
invariant-loop-octets g l =
    ((all : List ℕ) → OctetsGoOn g.R.ReadLeaves.rules (g.K.InFragments.coding l.kind) g.R.ReadLeaves.ahead g.R.ReadLeaves.is_between l.fn.octets all (g.R.ReadLeaves.rules.to_units l.fn.units) → OctetsGoOn g.R.ReadLeaves.rules (g.K.InFragments.coding l.kind) g.R.ReadLeaves.ahead g.R.ReadLeaves.is_between l.octets all (g.R.ReadLeaves.rules.to_units l.units))
    × Ticked g.R.ReadLeaves.rules l.fn.units l.fn.ticks.taken l.units l.ticks.taken × g.R.ReadLeaves.rules.at_unit l.units × (l.octets.fragments ≡ l.fn.octets.fragments)
    × (length (g.R.ReadLeaves.rules.to_units l.units) ≤ length (g.R.ReadLeaves.rules.to_units l.fn.units)) × (l.fn.ticks.taken ≤ l.ticks.taken) × (l.ticks.inside ≡ l.fn.ticks.inside)

abbrev pub decreases-loop-octets : goal.decreases-loop-octets
decreases-loop-octets g l = l.octets.left
