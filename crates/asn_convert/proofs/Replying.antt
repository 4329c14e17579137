-- What is answered to a line, from what is answered to its octets or its JSON.
use Rattle.std.proofs.Common.{◌≡◌, ◌∙◌, ℕ, true, false, List, refl, sym, subst, inl, inr, Result, Ok, Err}
use Rattle.std.specs.Prelude.{string_bytes, codes, IfErr}
use Rattle.hex.specs.Hex.{decode_of, encode_lower}
use Rattle.asn_values.specs.Datum.{Datum}
use Rattle.asn_values.specs.Shape.{Shape}
use Rattle.asn_values.specs.View.{shape_of, datum_of}
use Rattle.asn_values.specs.declared.types.AsnType.{AsnType}
use Rattle.asn_rules.specs.Answer.{Ruling}
use Rattle.asn_newer.specs.Loose.{LooseCoding}
use Rattle.asn_rules.specs.Faults.{State}
use Rattle.asn_json.specs.Texts.{RefusesText}
use Rattle.asn_json.specs.declared.fault.TextFault.{TextFault}
use Rattle.asn_json.specs.declared.fault.TextFault.TheVariants as text_fault
use Rattle.asn_convert.specs.Answers.{Terms, Answers, IsRefusedText, TellsTextFault, line_digits}
use Rattle.asn_convert.specs.Parts.{LineAnswer}
use Rattle.asn_convert.specs.Put.{OctetsBegun}
use Rattle.asn_convert.specs.Replies.{LineReply, OctetsAnswer, RepliesConvert, RepliesJson}
use Rattle.asn_convert.specs.Text.{Stops, IsAnswerBegun}
use Rattle.asn_jobs.specs.declared.job.RunFault.{RunFault}
use Rattle.asn_convert.proofs.Told.{stops_so}
use Rattle.asn_jobs.specs.declared.job.Order.TheVariants as order
use Rattle.asn_jobs.specs.declared.job.RuleName.{RuleName}
use Rattle.asn_convert.specs.declared.texts.Reply.{Reply}
use Rattle.asn_convert.specs.declared.texts.Reply.TheVariants as reply

-- the words of the fault for which a line is refused are a refusal of it
pub refused_text : (line : List ℕ) (why : TextFault) (text : List ℕ) → RefusesText line why → TellsTextFault why text → IsRefusedText line text
refused_text line text_fault.NotJson text r e = inl (r.told, e)
refused_text line (text_fault.KeyTwice path) text r e = inr (string_bytes path, r.told.0, r.told.1, e)
refused_text line text_fault.Memory text r e = absurd e

module _ (a b : Ruling) (l : LooseCoding) (name : RuleName) (t : AsnType) (line : List ℕ) where
  pub convert_reply : (octets : List ℕ) (r : Reply) → decode_of (line_digits line) ≡ Ok octets → RepliesConvert a name (shape_of t) octets r → LineReply a b l name order.Convert t line r
  convert_reply octets (reply.Text answer) is p =
      subst (λ good. LineAnswer a b l name order.Convert t line good (string_bytes answer.text)) (sym p.1) (inr (octets, is, inl p.0))
  convert_reply octets (reply.Encoded v) is p = absurd p
  convert_reply octets (reply.Converted v) is p = record {
    fits = p.encoding.0;
    octets = λ o e. inr (octets, is, (o, (datum_of v, p, e), refl));
    too_long = λ h. inr (octets, is, inr (datum_of v, p, h, refl));
  }

  pub json_reply : (r : Reply) → RepliesJson (shape_of t) line r → LineReply a b l name order.Encode t line r
  json_reply (reply.Text answer) (inl none, bad) =
      subst (λ good. LineAnswer a b l name order.Encode t line good (string_bytes answer.text)) (sym bad) (inl (none, refl))
  json_reply (reply.Text answer) (inr (j, is, not_shown), bad) =
      subst (λ good. LineAnswer a b l name order.Encode t line good (string_bytes answer.text)) (sym bad) (inr (j, is, inl not_shown))
  json_reply (reply.Encoded v) (j, is, shown, fits) = record {
    fits = fits;
    octets = λ o e. inr (j, is, (datum_of v, o, shown, e, refl));
    too_long = λ h. inr (j, is, inr (datum_of v, shown, fits, h, refl));
  }
  json_reply (reply.Converted v) p = absurd p

-- what was written of the octets of a value, or that they are too many, is a beginning of the line's answer
octets_begun : (w : Terms) (line : List ℕ) (r : Ruling) (t : Shape) (v : Datum) → OctetsAnswer r t v (λ good text. Answers w line text good) → (out : List ℕ) → OctetsBegun r t v out → IsAnswerBegun w line out
octets_begun w line r t v answer out (true, all, told, front) =
    inr (encode_lower told.0, true, answer.octets told.0 told.1, (front.0, front.1 ∙ told.2))
octets_begun w line r t v answer out (false, all, told, front) = inr (codes "! too long", false, answer.too_long told.0, (front.0, front.1 ∙ told.1))

pub line_begun_by : {A : Type 0} (result : Result A RunFault) (w : Terms) (line : List ℕ) (r : Ruling) (t : Shape) (v : Datum) (old new : State)
    → OctetsAnswer r t v (λ good text. Answers w line text good) → IfErr result (λ why. Stops why (OctetsBegun r t v) old new)
    → IfErr result (λ why. Stops why (IsAnswerBegun w line) old new)
line_begun_by (Ok x) w line r t v old new answer e = e
line_begun_by (Err why) w line r t v old new answer e = stops_so why (OctetsBegun r t v) (IsAnswerBegun w line) old new (octets_begun w line r t v answer) e
