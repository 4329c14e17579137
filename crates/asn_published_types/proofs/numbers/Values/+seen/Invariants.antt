-- Each call inside another has a level less.
use Rattle.asn_published_types.proofs.numbers.Values.+seen.Given as goal

abbrev pub decreases-inner_seen : goal.decreases-inner_seen
decreases-inner_seen l = l.levels

abbrev pub decreases-element_seen : goal.decreases-element_seen
decreases-element_seen l = l.levels

abbrev pub decreases-exception_seen : goal.decreases-exception_seen
decreases-exception_seen l = l.levels

abbrev pub decreases-set_seen : goal.decreases-set_seen
decreases-set_seen l = l.levels
