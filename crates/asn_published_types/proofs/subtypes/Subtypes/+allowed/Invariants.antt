-- Each call inside another has a level less.
use Rattle.asn_published_types.proofs.subtypes.Subtypes.+allowed.Given as goal

abbrev pub decreases-whole_of : goal.decreases-whole_of
decreases-whole_of l = l.levels

abbrev pub decreases-own_of : goal.decreases-own_of
decreases-own_of l = l.levels

abbrev pub decreases-group_of : goal.decreases-group_of
decreases-group_of l = l.levels

abbrev pub decreases-set_of : goal.decreases-set_of
decreases-set_of l = l.levels

abbrev pub decreases-exception_of : goal.decreases-exception_of
decreases-exception_of l = l.levels

abbrev pub decreases-element_of : goal.decreases-element_of
decreases-element_of l = l.levels

abbrev pub decreases-worded_of : goal.decreases-worded_of
decreases-worded_of l = l.levels

abbrev pub decreases-contained_of : goal.decreases-contained_of
decreases-contained_of l = l.levels

abbrev pub decreases-element_constraint : goal.decreases-element_constraint
decreases-element_constraint l = l.levels

abbrev pub decreases-part_constraint : goal.decreases-part_constraint
decreases-part_constraint l = l.levels

abbrev pub decreases-inner_of : goal.decreases-inner_of
decreases-inner_of l = l.levels

abbrev pub decreases-part_at : goal.decreases-part_at
decreases-part_at l = l.levels

abbrev pub decreases-place_in : goal.decreases-place_in
decreases-place_in l = l.levels
