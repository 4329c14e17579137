use Rattle.std.specs.Bool.{one_answer}
use Rattle.asn_values.specs.TypeEquality.{shape_eq, shape_eq-Decides}
use Rattle.asn_values.specs.View.{shape_of}
use Rattle.asn_values.proofs.type_equality.AsnTypePartialEq.eq.Goals as goal

-- both tests are true exactly where the types are the same
pub returns : goal.returns
returns c =
    let left = shape_of c.args.self.now in
    let right = shape_of c.args.other.now in
    one_answer c.is_same_type.result (shape_eq left right) c.is_same_type.ensures (shape_eq-Decides left right)
