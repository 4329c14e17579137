-- What is answered to whole messages, and of values, whose contents are judged too.
use Rattle.std.specs.Prelude.{◌≡◌, ◌<◌, ◌≤◌, ℕ, Bool, true, false, Option, Some, None, Result, Ok, Err, List, length, take, ⊤}
use Rattle.asn_values.specs.declared.value.Value.{Value}
use Rattle.asn_values.specs.Datum.{Datum}
use Rattle.asn_values.specs.View.{datum_of}
use Rattle.asn_rules.specs.Answer.{Ruling, done, max_octets}
use Rattle.asn_rules.specs.declared.fault.DecodeFault.TheVariants as decode
use Rattle.asn_constrained.specs.declared.fault.ConstrainedFault.{ConstrainedFault}
use Rattle.asn_constrained.specs.declared.fault.ConstrainedFault.TheVariants as under
use Rattle.asn_constrained.specs.Under.{IsEncodingUnder, AnswerUnder, DecodedUnder, NotEncodedUnder}
use Rattle.asn_contents.specs.Contents.{Contents}
use Rattle.asn_containing.specs.declared.fault.ContainingFault.{ContainingFault}
use Rattle.asn_containing.specs.declared.fault.ContainingFault.TheVariants as containing
use Rattle.asn_containing.specs.declared.fault.ContainingEncodeFault.{ContainingEncodeFault}
use Rattle.asn_containing.specs.declared.fault.ContainingEncodeFault.TheVariants as encoding
use Rattle.asn_containing.specs.Containing.{TableType, MeetWithin}
use Rattle.asn_containing.specs.Judged.{most_levels, Judged}

-- whether the contents of a value of these octets are right, and else what is reported: which are not, or that memory was
-- missing
abbrev pub Judging : Ruling → List TableType → Contents → Datum → ℕ → Option ContainingFault → Type 0
Judging r T c d n None = MeetWithin r T most_levels c d
Judging r T c d n (Some (containing.Contents used b)) = (used ≡ n) × Judged r T c d (Some b)
Judging r T c d n (Some (containing.Type (under.Type decode.Memory))) = ⊤
Judging r T c d n (Some (containing.Type fault)) = ⊥

-- What is answered to the octets o. A value whose contents are right: all of them are its encoding. Contents: they begin
-- with the encoding of a value whose contents are not. Rest: they begin with the encoding of one whose contents are. Else
-- what is answered of the type under the constraint.
abbrev pub DecodedContaining : Ruling → List TableType → TableType → Result Value ContainingFault → List ℕ → Type 0
DecodedContaining r T e (Ok v) o = DecodedUnder r e.constraint (Ok v) e.shape o × MeetWithin r T most_levels e.contents (datum_of v)
DecodedContaining r T e (Err (containing.Contents used b)) o =
    (v : Datum) × AnswerUnder r e.shape e.constraint (take max_octets o) (done v used) × Judged r T e.contents v (Some b)
DecodedContaining r T e (Err (containing.Type (under.Type (decode.Rest used)))) o =
    (used < length o) × (v : Datum) × AnswerUnder r e.shape e.constraint (take max_octets o) (done v used) × MeetWithin r T most_levels e.contents v
DecodedContaining r T e (Err (containing.Type fault)) o = DecodedUnder r e.constraint (Err fault) e.shape o

-- the octets are the encoding of a value whose contents are right
abbrev pub EncodesContaining : Ruling → List TableType → TableType → Datum → List ℕ → Type 0
EncodesContaining r T e v o = IsEncodingUnder r e.shape e.constraint v o × MeetWithin r T most_levels e.contents v

-- the same where the value is not returned
abbrev pub ChecksContaining : Ruling → List TableType → TableType → Result (Unit {0}) ContainingFault → List ℕ → Type 0
ChecksContaining r T e (Ok u) o = (length o ≤ max_octets) × (v : Datum) × EncodesContaining r T e v o
ChecksContaining r T e (Err fault) o = DecodedContaining r T e (Err fault) o

-- why a value has no such encoding: as without contents; its contents are not right
abbrev pub NotEncodedContaining : Ruling → ContainingEncodeFault → List TableType → TableType → Datum → Type 0
NotEncodedContaining r (encoding.Type why) T e v = NotEncodedUnder r why e.shape e.constraint v
NotEncodedContaining r (encoding.Contents b) T e v = ((o : List ℕ) × IsEncodingUnder r e.shape e.constraint v o) × Judged r T e.contents v (Some b)

-- octets follow an encoding
abbrev pub is_rest : ConstrainedFault → Bool
is_rest (under.Type (decode.Rest used)) = true
is_rest fault = false
