-- Each call inside another has a level less.
use Rattle.asn_published_types.proofs.subtypes.Subtypes.+values.Given as goal

abbrev pub decreases-value_at : goal.decreases-value_at
decreases-value_at l = l.levels

abbrev pub decreases-value_of_name : goal.decreases-value_of_name
decreases-value_of_name l = l.levels

abbrev pub decreases-part_value : goal.decreases-part_value
decreases-part_value l = l.levels

abbrev pub decreases-list_value : goal.decreases-list_value
decreases-list_value l = l.levels

abbrev pub decreases-choice_value : goal.decreases-choice_value
decreases-choice_value l = l.levels

abbrev pub decreases-sequence_value : goal.decreases-sequence_value
decreases-sequence_value l = l.levels

abbrev pub decreases-members_value : goal.decreases-members_value
decreases-members_value l = l.levels
