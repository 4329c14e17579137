use Rattle.std.proofs.Common.{◌≡◌, false, sym}
use Rattle.asn_values.specs.Profile.{no_bits}
use Rattle.asn_values.specs.View.{shape_of, size_range_of}
use Rattle.asn_values.proofs.Faultless.{faultless_list}
use Rattle.asn_values.proofs.ZeroBits.{found_within, has_bits}
use Rattle.asn_values.proofs.walk.check_list.Goals as goal

pub returns-then-has_no_bits-clause-fault : goal.returns-then-has_no_bits-clause-fault
returns-then-has_no_bits-clause-fault c = found_within c.args.levels (shape_of c.args.element.now) (sym c.if-has_no_bits.ensures)

pub returns-clause-faultless : goal.returns-clause-faultless
returns-clause-faultless c = λ deep.
    let t = shape_of c.args.element.now in
    let bits : no_bits t ≡ false = has_bits c.args.levels t deep (sym c.if-has_no_bits.ensures) in
    faultless_list t (size_range_of c.args.size.now) c.in_ok-check_size.ensures.faultless bits
