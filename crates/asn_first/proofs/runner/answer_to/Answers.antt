use Rattle.std.proofs.Common.{rules, ◌≡◌, ◌≢◌, List, ℕ, Ok, Err, string_bytes, subst}
use Rattle.hex.specs.Hex.{decode_of}
use Rattle.asn_values.specs.View.{datum_of}
use Rattle.asn_rules.specs.Codec.{Decoded}
use Rattle.asn_rules.specs.Laws.{AreOctets}
use Rattle.asn_rules.specs.declared.fault.DecodeFault.TheVariants as decode
use Rattle.asn_rules.proofs.Answer.CodecLaws.{each_octet}
use Rattle.asn_per.specs.Rules.{per_ruling, IsPerEncoding}
use Rattle.asn_first.specs.Lines.{sample_shape, IsTwoLines}
use Rattle.asn_first.proofs.Messages.{no_message, message, same_again}
use Rattle.asn_first.proofs.runner.answer_to.Goals as goal

pub returns-in-Err-decode-clause-answer : goal.returns-in-Err-decode-clause-answer
returns-in-Err-decode-clause-answer c =
    let o = c.in-Ok.octets.items in
    let why = c.in-Err-decode.field-0 in
    let digits : decode_of c.args.line.now ≡ Ok o = c.in-Ok.ensures.ok in
    let told : Decoded per_ruling (Err why) sample_shape o = rw (c.in_ok-ty.ensures, c.as_slice.ensures.value) at c.in-Err-decode.ensures in
    let other : why ≢ decode.Memory = search rules in
    no_message c.args.line.now o why digits other told

pub returns-clause-answer : goal.returns-clause-answer
returns-clause-answer c =
    let line = c.args.line.now in
    let o = c.in-Ok.octets.items in
    let v = datum_of c.in-Ok-decode.value in
    let again = c.in-Ok-encode.again.items in
    let digits : decode_of line ≡ Ok o = c.in-Ok.ensures.ok in
    let told : Decoded per_ruling (Ok c.in-Ok-decode.value) sample_shape o = rw (c.in_ok-ty.ensures, c.as_slice.ensures.value) at c.in-Ok-decode.ensures in
    let second : IsPerEncoding sample_shape v again = rw c.in_ok-ty.ensures at c.in-Ok-encode.ensures.encoding in
    let octets : AreOctets again = each_octet again (rw c.as_slice-2.ensures.value at c.two_lines.ensures.octets) in
    let m = message line o c.in-Ok-decode.value digits told in
    let same : again ≡ o = same_again line o again v octets m second in
    let shown = string_bytes c.in_ok-shown.shown in
    let text : IsTwoLines shown again (string_bytes c.in_ok-two_lines.field-0) = rw c.as_slice-2.ensures.value at c.in_ok-two_lines.ensures.text in
    (o, v, m, shown, subst (λ (l : List ℕ). IsTwoLines shown l (string_bytes c.in_ok-two_lines.field-0)) same text)
