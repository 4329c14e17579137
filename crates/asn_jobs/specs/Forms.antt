-- Octets as texts: hexadecimal digits, dumps, Base64 (RFC 4648), and the octets themselves.
use Rattle.std.specs.Prelude.{ℕ, List, Option, Some}
use Rattle.std.specs.Result.{result_ok}
use Rattle.hex.specs.Hex.{decode_of, encode_lower}
use Rattle.base64.specs.Engines.{standard}
use Rattle.base64.specs.GeneralPurpose as engine
use Rattle.asn_jobs.specs.Texts.{digits_of}
use Rattle.asn_jobs.specs.DumpTexts.{dump_octets}
use Rattle.asn_jobs.specs.declared.texts.OctetForm.{OctetForm}
use Rattle.asn_jobs.specs.declared.texts.OctetForm.TheVariants as form

-- the octets that stand in a text, if it is of this form
abbrev pub octets_in : OctetForm → List ℕ → Option (List ℕ)
octets_in form.Hex text = result_ok (decode_of (digits_of text))
octets_in form.HexBlock text = result_ok (decode_of (digits_of text))
octets_in form.Dump text = dump_octets text
octets_in form.Base64 text = result_ok (engine.decode_of standard text)
octets_in form.Binary text = Some text

-- the text of this form that is written of octets
abbrev pub text_of : OctetForm → List ℕ → List ℕ
text_of form.Hex octets = encode_lower octets
text_of form.HexBlock octets = encode_lower octets
text_of form.Dump octets = encode_lower octets
text_of form.Base64 octets = engine.encode_of standard octets
text_of form.Binary octets = octets

-- the form in which that text is read again: a dump is written as hexadecimal digits
abbrev pub read_form : OctetForm → OctetForm
read_form form.Hex = form.Hex
read_form form.HexBlock = form.HexBlock
read_form form.Dump = form.Hex
read_form form.Base64 = form.Base64
read_form form.Binary = form.Binary
