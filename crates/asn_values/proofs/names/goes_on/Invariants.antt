use Rattle.std.proofs.Common.{◌≡◌, drop}
use Rattle.asn_values.specs.Profile as profile
use Rattle.asn_values.proofs.names.goes_on.Given as goal

-- what is left decides
abbrev pub invariant-loop-index : goal.invariant-loop-index
invariant-loop-index l = profile.goes_on (drop l.index l.text) ≡ profile.goes_on l.text
