-- What is written of a value has no floating point number, so its text is the compact one.
use Rattle.std.proofs.Common.{◌≡◌, subst}
use Rattle.std.specs.Prelude.{IfOk, string_bytes}
use Rattle.serde_json.specs.Written.{compact_text}
use Rattle.asn_values.specs.View.{shape_of, datum_of}
use Rattle.asn_json.specs.Written.{json_of}
use Rattle.asn_json.proofs.PlainJson.{text_plain}
use Rattle.tulvorn_c.proofs.json.json_text.Goals as goal

pub returns-in-Ok-clause-text : goal.returns-in-Ok-clause-text
returns-in-Ok-clause-text c =
    let t = shape_of c.args.ty.now in
    let d = datum_of c.args.value.now in
    subst (λ r. IfOk r (λ s. string_bytes s ≡ compact_text (json_of t d))) c.in-Ok.is
    (text_plain c.to_string.result t d _ c.in_ok-json.ensures.written.is c.to_string.ensures.text)
