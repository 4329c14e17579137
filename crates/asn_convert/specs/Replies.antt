-- What is answered to a line: a text, or the octets of a value.
use Rattle.std.specs.Prelude.{◌≡◌, ◌⊎◌, ℕ, Bool, true, false, List, codes, string_bytes}
use Rattle.hex.specs.Hex.{encode_lower}
use Rattle.serde_json.specs.Data.{Data}
use Rattle.asn_values.specs.Datum.{Datum}
use Rattle.asn_values.specs.Fits.{Fits}
use Rattle.asn_values.specs.Shape.{Shape}
use Rattle.asn_values.specs.View.{shape_of, datum_of}
use Rattle.asn_values.specs.declared.types.AsnType.{AsnType}
use Rattle.asn_rules.specs.Answer.{Ruling}
use Rattle.asn_rules.specs.CodecLaws.{Encoded}
use Rattle.asn_newer.specs.Loose.{LooseCoding}
use Rattle.asn_json.specs.Errors.{Shown}
use Rattle.asn_json.specs.Texts.{IsJson}
use Rattle.asn_convert.specs.Answers.{IsNotDecoded, IsNotShown, IsRefusedText}
use Rattle.asn_convert.specs.Converted.{IsTooLong}
use Rattle.asn_convert.specs.Parts.{LineAnswer}
use Rattle.asn_jobs.specs.declared.job.Order.{Order}
use Rattle.asn_jobs.specs.declared.job.RuleName.{RuleName}
use Rattle.asn_convert.specs.declared.texts.Reply.{Reply}
use Rattle.asn_convert.specs.declared.texts.Reply.TheVariants as reply

-- the octets of the value in hexadecimal are an answer, and so is that they are too many
pub record OctetsAnswer (r : Ruling) (t : Shape) (v : Datum) (answers : Bool → List ℕ → Type 0) : Type 0 where
  pub fits : Fits t v
  pub octets : (o : List ℕ) → Encoded r t v o → answers true (encode_lower o)
  pub too_long : IsTooLong r t v → answers false (codes "! too long")

-- what is answered to a line, octets being those of the rules a, or converted to those of b
abbrev pub LineReply : Ruling → Ruling → LooseCoding → RuleName → Order → AsnType → List ℕ → Reply → Type 0
LineReply a b l name by t line (reply.Text answer) = LineAnswer a b l name by t line answer.is_good (string_bytes answer.text)
LineReply a b l name by t line (reply.Encoded v) =
    OctetsAnswer a (shape_of t) (datum_of v) (λ good text. LineAnswer a b l name by t line good text)
LineReply a b l name by t line (reply.Converted v) =
    OctetsAnswer b (shape_of t) (datum_of v) (λ good text. LineAnswer a b l name by t line good text)

-- a refusal of octets, or the value that they encode, which is to be converted
abbrev pub RepliesConvert : Ruling → RuleName → Shape → List ℕ → Reply → Type 0
RepliesConvert r name t o (reply.Text answer) = IsNotDecoded r name t o (string_bytes answer.text) × (answer.is_good ≡ false)
RepliesConvert r name t o (reply.Encoded v) = ⊥
RepliesConvert r name t o (reply.Converted v) = Encoded r t (datum_of v) o

-- a refusal of JSON, or the value that it shows, which is to be encoded
abbrev pub RepliesValue : Shape → Data → Reply → Type 0
RepliesValue t j (reply.Text answer) = IsNotShown t j (string_bytes answer.text) × (answer.is_good ≡ false)
RepliesValue t j (reply.Encoded v) = Shown t j (datum_of v) × Fits t (datum_of v)
RepliesValue t j (reply.Converted v) = ⊥

-- a refusal of a line of JSON, or the value that it shows
abbrev pub RepliesJson : Shape → List ℕ → Reply → Type 0
RepliesJson t line (reply.Text answer) =
    (IsRefusedText line (string_bytes answer.text)
    ⊎ ((j : Data) × IsJson line j × IsNotShown t j (string_bytes answer.text))) × (answer.is_good ≡ false)
RepliesJson t line (reply.Encoded v) = (j : Data) × IsJson line j × Shown t j (datum_of v) × Fits t (datum_of v)
RepliesJson t line (reply.Converted v) = ⊥
