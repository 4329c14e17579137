use Rattle.std.proofs.Common.{◌+◌, ◌*◌}
use Rattle.asn_module.proofs.expanding.+expanding.Given as goal

abbrev pub decreases-expand : goal.decreases-expand
decreases-expand l = 4 * l.levels

abbrev pub decreases-expand_here : goal.decreases-expand_here
decreases-expand_here l = 4 * l.levels + 3

abbrev pub decreases-expand_fields : goal.decreases-expand_fields
decreases-expand_fields l = 4 * l.levels + 1

abbrev pub decreases-expand_alternatives : goal.decreases-expand_alternatives
decreases-expand_alternatives l = 4 * l.levels + 2
