-- Each call inside another has a level less.
use Rattle.asn_published_types.proofs.tree.+tree.Given as goal

abbrev pub decreases-tree_at : goal.decreases-tree_at
decreases-tree_at l = l.levels

abbrev pub decreases-held_at : goal.decreases-held_at
decreases-held_at l = l.levels
