-- Each call inside another has a level less.
use Rattle.asn_published_types.proofs.tree.+contents.Given as goal

abbrev pub decreases-contents_of_node : goal.decreases-contents_of_node
decreases-contents_of_node l = l.levels

abbrev pub decreases-contents_held : goal.decreases-contents_held
decreases-contents_held l = l.levels
