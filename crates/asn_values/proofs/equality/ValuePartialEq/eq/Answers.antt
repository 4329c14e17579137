use Rattle.std.specs.Bool.{one_answer}
use Rattle.asn_values.specs.Equality.{datum_eq, datum_eq-Decides}
use Rattle.asn_values.specs.View.{datum_of}
use Rattle.asn_values.proofs.equality.ValuePartialEq.eq.Goals as goal

-- both tests are true exactly where the data are equal
pub returns : goal.returns
returns c =
    let left = datum_of c.args.self.now in
    let right = datum_of c.args.other.now in
    one_answer c.same.result (datum_eq left right) c.same.ensures (datum_eq-Decides left right)
