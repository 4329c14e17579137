-- What is answered to whole messages, by what is answered of the type under its constraint and of the contents.
use Rattle.std.proofs.Common.{◌≡◌, ◌<◌, ℕ, false, Ok, Err, Some, List, length, take, subst, sym}
use Rattle.std.proofs.lemmas.Bool.{true≢false}
use Rattle.std.proofs.lemmas.List.{take_all}
use Rattle.asn_values.specs.declared.value.Value.{Value}
use Rattle.asn_values.specs.Datum.{Datum}
use Rattle.asn_values.specs.View.{datum_of}
use Rattle.asn_rules.specs.Answer.{Ruling, done, max_octets}
use Rattle.asn_rules.specs.declared.fault.DecodeFault.TheVariants as decode
use Rattle.asn_rules.proofs.FrontMessages.{whole_decoded}
use Rattle.asn_constrained.specs.declared.fault.ConstrainedFault.{ConstrainedFault}
use Rattle.asn_constrained.specs.declared.fault.ConstrainedFault.TheVariants as under
use Rattle.asn_constrained.specs.Under.{AnswerUnder, DecodedUnder, DecodedFrontUnder}
use Rattle.asn_containing.specs.declared.fault.ContainingFault.{ContainingFault}
use Rattle.asn_containing.specs.declared.fault.ContainingFault.TheVariants as containing
use Rattle.asn_containing.specs.Containing.{TableType, MeetWithin}
use Rattle.asn_containing.specs.Judged.{most_levels}
use Rattle.asn_containing.specs.Decoded.{Judging, DecodedContaining, ChecksContaining, is_rest}
use Rattle.asn_containing.proofs.Encodings.{decoded_is}

module _ (r : Ruling) (T : List TableType) (e : TableType) (o : List ℕ) where
  -- contents of a value whose encoding the octets begin with
  pub front_judged : (v : Datum) (n : ℕ) (fault : ContainingFault) → AnswerUnder r e.shape e.constraint (take max_octets o) (done v n)
      → Judging r T e.contents v n (Some fault) → DecodedContaining r T e (Err fault) o
  front_judged v n (containing.Contents used b) h j =
      (v, subst (λ (k : ℕ). AnswerUnder r e.shape e.constraint (take max_octets o) (done v k)) (sym j.0) h, j.1)
  front_judged v n (containing.Type (under.Type decode.Memory)) h j = tt
  front_judged v n (containing.Type (under.Type (decode.Refused at why))) h j = absurd j
  front_judged v n (containing.Type (under.Type (decode.Truncated taken))) h j = absurd j
  front_judged v n (containing.Type (under.Type (decode.Rest used))) h j = absurd j
  front_judged v n (containing.Type (under.Type decode.TooLong)) h j = absurd j
  front_judged v n (containing.Type (under.Broken used b)) h j = absurd j

  -- of a value whose encoding they are
  pub whole_judged : (v : Value) (fault : ContainingFault) → DecodedUnder r e.constraint (Ok v) e.shape o
      → Judging r T e.contents (datum_of v) (length o) (Some fault) → DecodedContaining r T e (Err fault) o
  whole_judged v fault h j =
      let all : o ≡ take max_octets o = sym (take_all max_octets o h.0) in
      front_judged (datum_of v) (length o) fault (subst (λ (l : List ℕ). AnswerUnder r e.shape e.constraint l (done (datum_of v) (length o))) all h.1) j

  pub not_rest : (fault : ConstrainedFault) → is_rest fault ≡ false → DecodedUnder r e.constraint (Err fault) e.shape o → DecodedContaining r T e (Err (containing.Type fault)) o
  not_rest (under.Type decode.Memory) other h = h
  not_rest (under.Type (decode.Refused at why)) other h = h
  not_rest (under.Type (decode.Truncated taken)) other h = h
  not_rest (under.Type (decode.Rest used)) other h = absurd (true≢false other)
  not_rest (under.Type decode.TooLong) other h = h
  not_rest (under.Broken used b) other h = h

  pub front_fault : (fault : ConstrainedFault) (v : Value) → DecodedFrontUnder r e.constraint (Err fault) v e.shape o → DecodedContaining r T e (Err (containing.Type fault)) o
  front_fault (under.Type decode.Memory) v h = h
  front_fault (under.Type (decode.Refused at why)) v h = h
  front_fault (under.Type (decode.Truncated taken)) v h = h
  front_fault (under.Type (decode.Rest used)) v h = absurd h
  front_fault (under.Type decode.TooLong) v h = h
  front_fault (under.Broken used b) v h = h

  -- all octets are the encoding
  pub whole_front : (v : Value) (used : ℕ) → DecodedFrontUnder r e.constraint (Ok used) v e.shape o → (used < length o → ⊥) → MeetWithin r T most_levels e.contents (datum_of v)
      → DecodedContaining r T e (Ok v) o
  whole_front v used h whole met =
      let here = whole_decoded r e.shape o v used h.0 whole in
      ((here.0, (here.1, h.1)), met)

  pub checked : (v : Value) → DecodedContaining r T e (Ok v) o → ChecksContaining r T e (Ok tt) o
  checked v h = (h.0.0, datum_of v, ((decoded_is r e v o h.0).1, h.1))
