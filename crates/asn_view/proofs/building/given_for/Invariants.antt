use Rattle.std.proofs.Common.{◌≡◌, drop}
use Rattle.asn_view.specs.Built.{given_for}
use Rattle.asn_view.proofs.building.given_for.Given as goal

-- what is left decides
abbrev pub invariant-loop-other : goal.invariant-loop-other
invariant-loop-other l = given_for l.name (drop l.other-index l.parts) ≡ given_for l.name l.parts
