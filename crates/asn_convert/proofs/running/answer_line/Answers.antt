use Rattle.asn_values.specs.View.{shape_of, datum_of}
use Rattle.asn_convert.specs.Answers.{rulings}
use Rattle.asn_convert.specs.Text.{terms}
use Rattle.asn_convert.proofs.Replying.{line_begun_by}
use Rattle.asn_convert.proofs.running.answer_line.Goals as goal

pub returns-in-Encoded-clause-begun : goal.returns-in-Encoded-clause-begun
returns-in-Encoded-clause-begun g c =
    let w = terms (rulings g.A.Rules.ruling g.B.Rules.ruling g.A.OtherVersions.loose) c.args.rules c.args.order (shape_of c.args.planned.now) in
    line_begun_by c.put_octets.result w c.args.line.now g.A.Rules.ruling (shape_of c.args.planned.now) (datum_of c.in-Encoded.value) _ _ (rw c.in-Encoded.is at c.in_ok-answer.ensures) (rw c.get.ensures at c.put_octets.ensures.err)

pub returns-in-Converted-clause-begun : goal.returns-in-Converted-clause-begun
returns-in-Converted-clause-begun g c =
    let w = terms (rulings g.A.Rules.ruling g.B.Rules.ruling g.A.OtherVersions.loose) c.args.rules c.args.order (shape_of c.args.planned.now) in
    line_begun_by c.put_octets-in-Converted.result w c.args.line.now g.B.Rules.ruling (shape_of c.args.planned.now) (datum_of c.in-Converted.value) _ _ (rw c.in-Converted.is at c.in_ok-answer.ensures) (rw c.get-in-Converted.ensures at c.put_octets-in-Converted.ensures.err)
