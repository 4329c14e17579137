use Rattle.asn_values.specs.Profile.{InProfile}
use Rattle.asn_values.specs.View.{shape_of}
use Rattle.asn_explain.proofs.finding.+follow.Given as goal

-- the levels that are left
abbrev pub decreases-follow : goal.decreases-follow
decreases-follow g l = l.levels

-- the units stand in front of a value of a type of the profile
abbrev pub invariant-loop-level : goal.invariant-loop-level
invariant-loop-level g l = g.R.ReadLeaves.rules.at_unit l.units × InProfile (shape_of l.here)
