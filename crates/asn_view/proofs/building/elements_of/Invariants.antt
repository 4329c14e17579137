use Rattle.std.proofs.Common.{◌≡◌, ◌++◌, drop, map, option_map}
use Rattle.asn_values.specs.View.{shape_of, datum_of}
use Rattle.asn_view.specs.Built.{elements_given}
use Rattle.asn_view.proofs.building.elements_of.Given as goal

-- the elements so far, and those that are left
abbrev pub invariant-loop-part : goal.invariant-loop-part
invariant-loop-part l =
    option_map (λ ds. map datum_of l.all.items ++ ds) (elements_given (shape_of l.element) (drop l.part-index l.given))
    ≡ elements_given (shape_of l.element) l.given
