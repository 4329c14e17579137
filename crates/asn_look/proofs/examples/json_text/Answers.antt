use Rattle.asn_values.specs.View.{shape_of, datum_of}
use Rattle.asn_json.proofs.PlainJson.{text_plain}
use Rattle.asn_look.proofs.examples.json_text.Goals as goal

pub returns-in-Ok : goal.returns-in-Ok
returns-in-Ok c = text_plain c.to_string.result (shape_of c.args.ty.now) (datum_of c.args.value.now) _ c.in-Ok.ensures.written.is c.to_string.ensures.text
