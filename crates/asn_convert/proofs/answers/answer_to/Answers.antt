use Rattle.std.proofs.Common.{◌≡◌, Ok, rules}
use Rattle.std.proofs.lemmas.Result.{IfOk-weaker}
use Rattle.hex.specs.Hex.{decode_of}
use Rattle.asn_convert.specs.Answers.{line_digits}
use Rattle.asn_convert.proofs.Replying.{json_reply, convert_reply}
use Rattle.asn_convert.proofs.answers.answer_to.Goals as goal

pub returns-in-Encode : goal.returns-in-Encode
returns-in-Encode g c =
    rw c.in-Encode.is
    (IfOk-weaker c.answer_json.result _ _ (λ r. json_reply g.A.Rules.ruling g.B.Rules.ruling g.A.OtherVersions.loose c.args.rules c.args.planned.now c.args.line.now r) (rw c.get-ty.ensures at c.answer_json.ensures))

pub returns-in-Convert : goal.returns-in-Convert
returns-in-Convert g c =
    let octets : decode_of (line_digits c.args.line.now) ≡ Ok c.as_slice-octets.result.now = search rules in
    rw c.in-Convert.is
    (IfOk-weaker c.convert_octets.result _ _ (λ r. convert_reply g.A.Rules.ruling g.B.Rules.ruling g.A.OtherVersions.loose c.args.rules c.args.planned.now c.args.line.now c.as_slice-octets.result.now r octets) c.convert_octets.ensures)
