-- A type with a constraint: its encodings are those whose value meets it, which is judged at their last unit.
use Rattle.std.specs.Prelude.{◌≡◌, ◌<◌, ◌≤◌, ◌⊎◌, ℕ, Bool, true, false, Option, Some, None, Result, Ok, Err, List, length, take, ⊤}
use Rattle.asn_values.specs.declared.value.Value.{Value}
use Rattle.asn_values.specs.Datum.{Datum}
use Rattle.asn_values.specs.Shape.{Shape}
use Rattle.asn_values.specs.Fits.{Fits}
use Rattle.asn_values.specs.View.{datum_of}
use Rattle.asn_rules.specs.declared.fault.DecodeFault.{DecodeFault}
use Rattle.asn_rules.specs.declared.fault.EncodeFault.{EncodeFault}
use Rattle.asn_rules.specs.declared.fault.EncodeFault.TheVariants as encode
use Rattle.asn_rules.specs.declared.fault.DecodeFault.TheVariants as decode
use Rattle.asn_rules.specs.Answer.{Ruling, IsEncoding, Told, done, refused, too_long, more, Answer, max_octets}
use Rattle.asn_rules.specs.Codec.{NotEncoded, Decoded, DecodedFront}
use Rattle.asn_constraints.specs.Constraints.{Constraint, meets}
use Rattle.asn_constraints.specs.declared.broken.Broken.{Broken}
use Rattle.asn_constraints.specs.Broken.{BreaksAt}
use Rattle.asn_constrained.specs.declared.fault.ConstrainedFault.{ConstrainedFault}
use Rattle.asn_constrained.specs.declared.fault.ConstrainedFault.TheVariants as under

-- the octets o are the encoding of the value v of the type t under the constraint c
abbrev pub IsEncodingUnder : Ruling → Shape → Constraint → Datum → List ℕ → Type 0
IsEncodingUnder r t c v o = IsEncoding r t v o × (meets c v ≡ true)

-- ---- the answer to all octets so far

-- the first n octets are the encoding of a value that breaks the constraint
pub record BreaksConstraint (r : Ruling) (t : Shape) (c : Constraint) (s : List ℕ) (n : ℕ) : Type 0 where
  pub value : Datum
  pub answered : Answer r t s (done value n)
  pub broken : meets c value ≡ false

-- they are refused at their last unit
pub record RefusedByConstraint (r : Ruling) (t : Shape) (c : Constraint) (s : List ℕ) (k : ℕ) : Type 0 where
  pub octets : ℕ
  pub breaks : BreaksConstraint r t c s octets
  pub place : k ≡ length (r.units (take octets s))

abbrev pub AnswerUnder : Ruling → Shape → Constraint → List ℕ → Told → Type 0
AnswerUnder r t c s (done v n) = Answer r t s (done v n) × (meets c v ≡ true)
AnswerUnder r t c s (refused k) = Answer r t s (refused k) ⊎ RefusedByConstraint r t c s k
AnswerUnder r t c s too_long = Answer r t s too_long
AnswerUnder r t c s more = Answer r t s more

-- ---- what is broken, and where

-- the first n octets are the encoding of a value that breaks the constraint, in this way and at this path
pub record ReportsBroken (r : Ruling) (t : Shape) (c : Constraint) (s : List ℕ) (n : ℕ) (b : Broken) : Type 0 where
  pub value : Datum
  pub answered : Answer r t s (done value n)
  pub broken : meets c value ≡ false
  pub place : BreaksAt c value b.path.items b.reason

-- whether a value meets the constraint, and else where it breaks it
abbrev pub Found : Constraint → Datum → Option Broken → Type 0
Found c d None = meets c d ≡ true
Found c d (Some b) = (meets c d ≡ false) × BreaksAt c d b.path.items b.reason

-- whether a value of these octets meets the constraint, and else what is reported: how it breaks it, or that memory was
-- wanting
abbrev pub Judged : Constraint → Datum → ℕ → Option ConstrainedFault → Type 0
Judged c d n None = Found c d None
Judged c d n (Some (under.Broken used b)) = (used ≡ n) × Found c d (Some b)
Judged c d n (Some (under.Type decode.Memory)) = ⊤
Judged c d n (Some (under.Type fault)) = ⊥

-- ---- whole messages

-- What is answered to the octets o. A value that meets the constraint: all of them are its encoding. Broken: they
-- begin with the encoding of a value that breaks it. Rest: they begin with the encoding of a value that meets it. Else
-- what is answered of the type alone.
abbrev pub DecodedUnder : Ruling → Constraint → Result Value ConstrainedFault → Shape → List ℕ → Type 0
DecodedUnder r c (Ok v) t o = (length o ≤ max_octets) × AnswerUnder r t c o (done (datum_of v) (length o))
DecodedUnder r c (Err (under.Broken used b)) t o = ReportsBroken r t c (take max_octets o) used b
DecodedUnder r c (Err (under.Type (decode.Rest used))) t o =
    (used < length o) × (d : Datum) × AnswerUnder r t c (take max_octets o) (done d used)
DecodedUnder r c (Err (under.Type fault)) t o = Decoded r (Err fault) t o

-- the same of the encoding that the octets begin with, of the value v: how many octets it has
abbrev pub DecodedFrontUnder : Ruling → Constraint → Result ℕ ConstrainedFault → Value → Shape → List ℕ → Type 0
DecodedFrontUnder r c (Ok used) v t o = AnswerUnder r t c (take max_octets o) (done (datum_of v) used)
DecodedFrontUnder r c (Err (under.Broken used b)) v t o = ReportsBroken r t c (take max_octets o) used b
DecodedFrontUnder r c (Err (under.Type fault)) v t o = DecodedFront r (Err fault) v t o

-- the same where no value is built: the octets are the encoding of some value that meets the constraint, or why not
abbrev pub ChecksUnder : Ruling → Constraint → Result (Unit {0}) ConstrainedFault → Shape → List ℕ → Type 0
ChecksUnder r c (Ok u) t o = (length o ≤ max_octets) × (d : Datum) × IsEncodingUnder r t c d o
ChecksUnder r c (Err why) t o = DecodedUnder r c (Err why) t o

-- octets follow an encoding
abbrev pub is_rest : DecodeFault → Bool
is_rest (decode.Rest used) = true
is_rest fault = false

-- why the value v of the type t has no encoding under the constraint: it is none of the type, or breaks the constraint;
-- or it meets it, and as without it
abbrev pub NotEncodedUnder : Ruling → EncodeFault → Shape → Constraint → Datum → Type 0
NotEncodedUnder r encode.NotOfType t c v = Fits t v × (meets c v ≡ true) → ⊥
NotEncodedUnder r why t c v = NotEncoded r why t v × (meets c v ≡ true)
