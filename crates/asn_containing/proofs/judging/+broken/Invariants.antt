use Rattle.std.proofs.Common.{◌+◌, ◌*◌}
use Rattle.asn_containing.specs.View.{table_of}
use Rattle.asn_containing.proofs.Breaking.{Looking}
use Rattle.asn_containing.proofs.judging.+broken.Given as goal

-- all octets are right where those are that are still to be looked at
abbrev pub invariant-first_broken-loop-content : goal.invariant-first_broken-loop-content
invariant-first_broken-loop-content g l = Looking g.R.Rules.ruling (table_of l.table) l.levels l.content-items l.content-index

-- the contents that may still lie in one another, and the calls for each
abbrev pub decreases-first_broken : goal.decreases-first_broken
decreases-first_broken g l = 3 * l.levels + 2

abbrev pub decreases-broken_content : goal.decreases-broken_content
decreases-broken_content g l = 3 * l.levels + 1

abbrev pub decreases-broken_of_type : goal.decreases-broken_of_type
decreases-broken_of_type g l = 3 * l.levels
