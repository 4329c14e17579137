use Rattle.asn_explain.proofs.finding.in_list.Given as goal

-- the units stand where a reader may begin, and a length or the end is next
abbrev pub invariant-loop : goal.invariant-loop
invariant-loop g l = g.R.ReadLeaves.rules.at_unit l.units × g.R.ReadLeaves.is_between l.fragments
