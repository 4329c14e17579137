use Rattle.asn_explain.proofs.finding.stopping_element.Given as goal

-- the units stand in front of an element
abbrev pub invariant-loop-index : goal.invariant-loop-index
invariant-loop-index g l = g.R.ReadLeaves.rules.at_unit l.units
