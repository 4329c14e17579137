use Rattle.std.proofs.Common.{◌≡◌, drop}
use Rattle.asn_values.specs.View.{shape_of}
use Rattle.asn_view.specs.Built.{are_names_of}
use Rattle.asn_view.proofs.building.check_names.Given as goal

-- what is left decides
abbrev pub invariant-loop-index : goal.invariant-loop-index
invariant-loop-index l = are_names_of (shape_of l.ty) (drop l.index l.parts) ≡ are_names_of (shape_of l.ty) l.parts
