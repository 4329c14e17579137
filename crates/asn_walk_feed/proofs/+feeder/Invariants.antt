use Rattle.std.proofs.Common.{◌≡◌, ◌≤◌, ◌+◌, ◌-◌, ℕ, List, length}
use Rattle.asn_values.specs.Measures.{sealed_depth, fields_sealed, additions_sealed}
use Rattle.asn_values.specs.View.{shape_of, size_range_of, fields_seen}
use Rattle.asn_walk.proofs.Listing.{steps_left}
use Rattle.asn_walk_feed.specs.AddedTaken.{AdditionsReached}
use Rattle.asn_walk_feed.specs.Additions.{marked_seen}
use Rattle.asn_walk_feed.specs.Feeding.{Ticked}
use Rattle.asn_walk_feed.specs.Levels.{Costs, OpenUnits, FieldUnits}
use Rattle.asn_walk_feed.specs.Nodes.{nodes}
use Rattle.asn_walk_feed.specs.Taken.{UnderEachSize, UnderEachMark, ListGoesOn, RootReached}
use Rattle.asn_walk_feed.proofs.+feeder.Given as goal

abbrev pub invariant-lists::feed_elements-loop-alloc : goal.invariant-lists::feed_elements-loop-alloc
invariant-lists::feed_elements-loop-alloc g l =
    ((all : List ℕ) → ListGoesOn g.R.ReadLeaves.rules g.R.FeedLeaves.fields g.R.ReadLeaves.ahead g.R.ReadLeaves.is_between (shape_of l.element) (size_range_of l.size) l.fn.list (nodes l.fn.frames) all (g.R.ReadLeaves.rules.to_units l.fn.units)
    → ListGoesOn g.R.ReadLeaves.rules g.R.FeedLeaves.fields g.R.ReadLeaves.ahead g.R.ReadLeaves.is_between (shape_of l.element) (size_range_of l.size) l.list (nodes l.frames) all (g.R.ReadLeaves.rules.to_units l.units))
    × Ticked g.R.ReadLeaves.rules l.fn.units l.fn.ticks.taken l.units l.ticks.taken × g.R.ReadLeaves.rules.at_unit l.units × (l.fn.ticks.taken ≤ l.ticks.taken)
    × Costs g.R.ReadLeaves.rules (λ n. OpenUnits g.R.ReadLeaves.rules g.R.FeedLeaves.fields g.R.ReadLeaves.ahead g.R.ReadLeaves.is_between (nodes l.fn.frames) n) (λ n. OpenUnits g.R.ReadLeaves.rules g.R.FeedLeaves.fields g.R.ReadLeaves.ahead g.R.ReadLeaves.is_between (nodes l.frames) n) (sealed_depth (shape_of l.element)) l.fn.ticks.inside l.fn.units l.ticks.inside l.units

abbrev pub decreases-lists::feed_elements-loop-alloc : goal.decreases-lists::feed_elements-loop-alloc
decreases-lists::feed_elements-loop-alloc g l = steps_left (g.R.ReadLeaves.ahead l.list.fragments) + length (g.R.ReadLeaves.rules.to_units l.units)

abbrev pub invariant-lists::feed_fragment-loop-list : goal.invariant-lists::feed_fragment-loop-list
invariant-lists::feed_fragment-loop-list g l =
    UnderEachSize (shape_of l.element) (λ s. (all : List ℕ) → ListGoesOn g.R.ReadLeaves.rules g.R.FeedLeaves.fields g.R.ReadLeaves.ahead g.R.ReadLeaves.is_between (shape_of l.element) s l.fn.list (nodes l.fn.frames) all (g.R.ReadLeaves.rules.to_units l.fn.units)
    → ListGoesOn g.R.ReadLeaves.rules g.R.FeedLeaves.fields g.R.ReadLeaves.ahead g.R.ReadLeaves.is_between (shape_of l.element) s l.list (nodes l.frames) all (g.R.ReadLeaves.rules.to_units l.units))
    × Ticked g.R.ReadLeaves.rules l.fn.units l.fn.ticks.taken l.units l.ticks.taken × g.R.ReadLeaves.rules.at_unit l.units
    × (l.list.fragments ≡ l.fn.list.fragments) × (length (g.R.ReadLeaves.rules.to_units l.units) ≤ length (g.R.ReadLeaves.rules.to_units l.fn.units)) × (l.fn.ticks.taken ≤ l.ticks.taken)
    × Costs g.R.ReadLeaves.rules (λ n. OpenUnits g.R.ReadLeaves.rules g.R.FeedLeaves.fields g.R.ReadLeaves.ahead g.R.ReadLeaves.is_between (nodes l.fn.frames) n) (λ n. OpenUnits g.R.ReadLeaves.rules g.R.FeedLeaves.fields g.R.ReadLeaves.ahead g.R.ReadLeaves.is_between (nodes l.frames) n) (sealed_depth (shape_of l.element)) l.fn.ticks.inside l.fn.units l.ticks.inside l.units

abbrev pub decreases-lists::feed_fragment-loop-list : goal.decreases-lists::feed_fragment-loop-list
decreases-lists::feed_fragment-loop-list g l = l.list.left

abbrev pub invariant-sequences::feed_components-loop-alloc : goal.invariant-sequences::feed_components-loop-alloc
invariant-sequences::feed_components-loop-alloc g l =
    UnderEachMark (fields_seen l.root) (λ more. (all : List ℕ) → RootReached g.R.ReadLeaves.rules g.R.FeedLeaves.fields g.R.ReadLeaves.ahead g.R.ReadLeaves.is_between (fields_seen l.root) more l.fn.read (nodes l.fn.frames) all (g.R.ReadLeaves.rules.to_units l.fn.units)
    → RootReached g.R.ReadLeaves.rules g.R.FeedLeaves.fields g.R.ReadLeaves.ahead g.R.ReadLeaves.is_between (fields_seen l.root) more l.read (nodes l.frames) all (g.R.ReadLeaves.rules.to_units l.units))
    × Ticked g.R.ReadLeaves.rules l.fn.units l.fn.ticks.taken l.units l.ticks.taken × g.R.ReadLeaves.rules.at_unit l.units × (l.fn.ticks.taken ≤ l.ticks.taken)
    × Costs g.R.ReadLeaves.rules (λ n. OpenUnits g.R.ReadLeaves.rules g.R.FeedLeaves.fields g.R.ReadLeaves.ahead g.R.ReadLeaves.is_between (nodes l.fn.frames) n) (λ n. OpenUnits g.R.ReadLeaves.rules g.R.FeedLeaves.fields g.R.ReadLeaves.ahead g.R.ReadLeaves.is_between (nodes l.frames) n) (fields_sealed (fields_seen l.root)) l.fn.ticks.inside l.fn.units l.ticks.inside l.units

abbrev pub decreases-sequences::feed_components-loop-alloc : goal.decreases-sequences::feed_components-loop-alloc
decreases-sequences::feed_components-loop-alloc g l = length l.root - length l.read.entries.items

abbrev pub invariant-additions::feed_open_fields-loop-read : goal.invariant-additions::feed_open_fields-loop-read
invariant-additions::feed_open_fields-loop-read g l =
    ((all : List ℕ) → AdditionsReached g.R.ReadLeaves.rules g.R.FeedLeaves.fields g.R.ReadLeaves.ahead g.R.ReadLeaves.is_between (fields_seen l._root) (marked_seen l.additions) l.fn.read (nodes l.fn.frames) all (g.R.ReadLeaves.rules.to_units l.fn.units)
    → AdditionsReached g.R.ReadLeaves.rules g.R.FeedLeaves.fields g.R.ReadLeaves.ahead g.R.ReadLeaves.is_between (fields_seen l._root) (marked_seen l.additions) l.read (nodes l.frames) all (g.R.ReadLeaves.rules.to_units l.units))
    × Ticked g.R.ReadLeaves.rules l.fn.units l.fn.ticks.taken l.units l.ticks.taken × g.R.ReadLeaves.rules.at_unit l.units × (l.fn.ticks.taken ≤ l.ticks.taken)
    × Costs g.R.ReadLeaves.rules (λ n. FieldUnits g.R.ReadLeaves.rules g.R.FeedLeaves.fields g.R.ReadLeaves.ahead g.R.ReadLeaves.is_between (nodes l.fn.frames) n) (λ n. FieldUnits g.R.ReadLeaves.rules g.R.FeedLeaves.fields g.R.ReadLeaves.ahead g.R.ReadLeaves.is_between (nodes l.frames) n) (additions_sealed (fields_seen l.additions)) l.fn.ticks.inside l.fn.units l.ticks.inside l.units

abbrev pub decreases-additions::feed_open_fields-loop-read : goal.decreases-additions::feed_open_fields-loop-read
decreases-additions::feed_open_fields-loop-read g l = l.read.presence.left
