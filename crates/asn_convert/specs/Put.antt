-- What is written of an answer.
use Rattle.std.specs.Prelude.{◌≡◌, ◌++◌, ℕ, Bool, true, false, List, [], codes, string_bytes, Result, IfOk, IfErr, ⊤}
use Rattle.std.specs.Io.KnownBytes.{Appends}
use Rattle.hex.specs.Hex.{encode_lower}
use Rattle.asn_values.specs.Datum.{Datum}
use Rattle.asn_values.specs.Shape.{Shape}
use Rattle.asn_values.specs.Fits.{Fits}
use Rattle.asn_rules.specs.Answer.{Ruling}
use Rattle.asn_rules.specs.Faults.{State, Rose}
use Rattle.asn_rules.specs.declared.fault.EncodeToFault.{EncodeToFault}
use Rattle.asn_rules.specs.declared.fault.EncodeToFault.TheVariants as encode
use Rattle.asn_rules.specs.CodecLaws.{Encoded}
use Rattle.asn_convert.specs.Converted.{IsTooLong}
use Rattle.asn_convert.specs.Text.{IsFront, ended}
use Rattle.asn_jobs.specs.declared.job.RunFault.{RunFault}
use Rattle.asn_jobs.specs.declared.job.RunFault.TheVariants as fault
use Rattle.asn_convert.specs.declared.texts.Answer.{Answer}

-- a text and its LF, and a front of them
abbrev pub TextTold : Answer → Bool → List ℕ → Type 0
TextTold answer good out = (good ≡ answer.is_good) × (out ≡ ended (string_bytes answer.text))

abbrev pub TextBegun : Answer → List ℕ → Type 0
TextBegun answer out = IsFront out (ended (string_bytes answer.text))

-- the octets of the value in hexadecimal, or nothing where they are too many, and a front of them
abbrev pub DigitsTold : Ruling → Shape → Datum → Bool → List ℕ → Type 0
DigitsTold r t v true out = (o : List ℕ) × Encoded r t v o × (out ≡ encode_lower o)
DigitsTold r t v false out = IsTooLong r t v × (out ≡ [])

abbrev pub DigitsBegun : Ruling → Shape → Datum → List ℕ → Type 0
DigitsBegun r t v out = (o : List ℕ) × Encoded r t v o × IsFront out (encode_lower o)

-- the same, or that they are too many, with an LF
abbrev pub OctetsTold : Ruling → Shape → Datum → Bool → List ℕ → Type 0
OctetsTold r t v true out = (o : List ℕ) × Encoded r t v o × (out ≡ ended (encode_lower o))
OctetsTold r t v false out = IsTooLong r t v × (out ≡ ended (codes "! too long"))

abbrev pub OctetsBegun : Ruling → Shape → Datum → List ℕ → Type 0
OctetsBegun r t v out = (good : Bool) × (line : List ℕ) × OctetsTold r t v good line × IsFront out line

-- why not all was written: a fault of the writer, or memory
abbrev pub IsWriteFault : RunFault → ℕ → ℕ → Type 0
IsWriteFault fault.Write old new = Rose old new
IsWriteFault fault.Memory old new = ⊤
IsWriteFault fault.Read old new = ⊥

-- digits of the octets of the value were written, and these are left
pub record Digits (r : Ruling) (t : Shape) (v : Datum) (old new : State) (left : List ℕ) : Type 0 where
  pub octets : List ℕ
  pub encoded : Encoded r t v octets
  pub digits : List ℕ
  pub appended : Appends old.octets new.octets digits
  pub whole : digits ++ left ≡ encode_lower octets

-- with Ok: none is left where that is told
abbrev pub GivesDigits : {E : Type 0} → Ruling → Shape → Datum → Result Bool E → State → State → Type 0
GivesDigits r t v result old new =
    IfOk result (λ whole. (left : List ℕ) × Digits r t v old new left × (whole ≡ true → left ≡ []))

-- with Err: why there are no digits, or not all
abbrev pub NoDigits : Ruling → Shape → Datum → EncodeToFault → Type 0 → State → State → Type 0
NoDigits r t v encode.NotOfType untouched old new = Fits t v → ⊥
NoDigits r t v encode.TooLong untouched old new = IsTooLong r t v × untouched
NoDigits r t v (encode.Write sent) untouched old new = (left : List ℕ) × Digits r t v old new left

abbrev pub GivesNoDigits : {A : Type 0} → Ruling → Shape → Datum → Result A EncodeToFault → Type 0 → State → State → Type 0
GivesNoDigits r t v result untouched old new = IfErr result (λ why. NoDigits r t v why untouched old new)
