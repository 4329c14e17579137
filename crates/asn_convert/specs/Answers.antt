-- What is answered to one line.
use Rattle.std.specs.Prelude.{◌≡◌, ◌≢◌, ◌≤◌, ◌⊎◌, ℕ, Bool, true, false, List, [], ◌∷◌, ◌++◌, length, codes, string_bytes, slice_get, Some, Ok, Err}
use Rattle.std.specs.Fmt.{decimal}
use Rattle.std.specs.Io.BufRead.{strip_last}
use Rattle.hex.specs.Hex.{decode_of, encode_lower}
use Rattle.serde_json.specs.Data.{Data}
use Rattle.serde_json.specs.Written.{compact_text}
use Rattle.asn_values.specs.Datum.{Datum}
use Rattle.asn_values.specs.Shape.{Shape}
use Rattle.asn_values.specs.Fits.{Fits}
use Rattle.asn_rules.specs.Answer.{Ruling, max_octets}
use Rattle.asn_rules.specs.Codec.{Decoded}
use Rattle.asn_rules.specs.CodecLaws.{Encoded}
use Rattle.asn_rules.specs.Reasons.{text_of_fault}
use Rattle.asn_rules.specs.declared.fault.DecodeFault.{DecodeFault}
use Rattle.asn_rules.specs.declared.fault.DecodeFault.TheVariants as decode
use Rattle.asn_rules.specs.declared.units.Unit.{Unit}
use Rattle.asn_rules.specs.declared.units.Unit.TheVariants as unit
use Rattle.asn_newer.specs.declared.fault.NewerFault.{NewerFault}
use Rattle.asn_newer.specs.declared.fault.NewerFault.TheVariants as newer
use Rattle.asn_newer.specs.Reading.{NotNewer}
use Rattle.asn_newer.specs.Skipped.{Skipped}
use Rattle.asn_newer.specs.Loose.{LooseCoding, IsLoose}
use Rattle.asn_json.specs.Written.{json_of}
use Rattle.asn_json.specs.Errors.{bad, Shown}
use Rattle.asn_json.specs.declared.fault.JsonFault.{JsonFault}
use Rattle.asn_json.specs.declared.fault.JsonFault.TheVariants as json
use Rattle.asn_json.specs.declared.fault.TextFault.{TextFault}
use Rattle.asn_json.specs.declared.fault.TextFault.TheVariants as text_fault
use Rattle.asn_json.specs.Texts.{IsJson, IsNoJson, IsPlainPath, RepeatsKey}
use Rattle.asn_jobs.specs.declared.job.RuleName.{RuleName}
use Rattle.asn_jobs.specs.declared.job.RuleName.TheVariants as rule_name
use Rattle.asn_jobs.specs.declared.job.Order.{Order}
use Rattle.asn_jobs.specs.declared.job.Order.TheVariants as order
use Rattle.asn_convert.specs.Converted.{Converts, IsTooLong}

-- the rules of the octets, those that they are converted to, and what the former say of messages of other versions
pub record Rulings : Type 1 where
  pub from : Ruling
  pub to : Ruling
  pub newer : LooseCoding

abbrev pub rulings : Ruling → Ruling → LooseCoding → Rulings
rulings a b l = record { from = a; to = b; newer = l }

-- what lines are answered by: the encoding rules, the name of those of the octets, the type, and what is made of a line
pub record Terms : Type 1 where
  pub rulings : Rulings
  pub name : RuleName
  pub shape : Shape
  pub order : Order

-- ---- faults in words

-- the unit that a place is counted in
abbrev pub unit_of : RuleName → Unit
unit_of rule_name.Per = unit.Bit
unit_of rule_name.Oer = unit.Octet

-- the words of a fault of decoding; want of memory has none
abbrev pub TellsDecodeFault : RuleName → DecodeFault → List ℕ → Type 0
TellsDecodeFault name why text = (why ≢ decode.Memory) × (text ≡ codes "! " ++ text_of_fault (unit_of name) why)

-- the words of a fault of reading JSON
abbrev pub TellsJsonFault : JsonFault → List ℕ → Type 0
TellsJsonFault (json.Shape path) text = text ≡ codes "! shape " ++ string_bytes path
TellsJsonFault json.NotOfType text = text ≡ codes "! not of type"
TellsJsonFault json.Memory text = ⊥

-- the words of a fault of reading a text as JSON
abbrev pub TellsTextFault : TextFault → List ℕ → Type 0
TellsTextFault text_fault.NotJson text = text ≡ codes "! json"
TellsTextFault (text_fault.KeyTwice path) text = text ≡ codes "! shape " ++ string_bytes path
TellsTextFault text_fault.Memory text = ⊥

-- the words of a fault of reading a message of a newer or older sender. One that was cut is told so; which of the first
-- three faults comes else is open
abbrev pub TellsNewerFault : NewerFault → List ℕ → Type 0
TellsNewerFault newer.Refused text = text ≡ codes "! refused"
TellsNewerFault newer.Truncated text = text ≡ codes "! cut short"
TellsNewerFault newer.TooManyAdditions text = text ≡ codes "! too many additions"
TellsNewerFault newer.TooLong text = text ≡ codes "! too long"
TellsNewerFault newer.Memory text = ⊥

-- ---- octets

-- the JSON of the value that they encode
abbrev pub Shows : Ruling → Shape → List ℕ → List ℕ → Type 0
Shows r t o text = (v : Datum) × Encoded r t v o × (text ≡ compact_text (json_of t v))

-- they encode a value: how many they are
abbrev pub Checks : Ruling → Shape → List ℕ → List ℕ → Type 0
Checks r t o text = (v : Datum) × Encoded r t v o × (text ≡ codes "ok " ++ decimal (length o))

-- why they are not decoded
abbrev pub IsNotDecoded : Ruling → RuleName → Shape → List ℕ → List ℕ → Type 0
IsNotDecoded r name t o text = (fault : DecodeFault) × Decoded r (Err fault) t o × TellsDecodeFault name fault text

-- the octets of their value by the other rules
abbrev pub IsConverted : Ruling → Ruling → Shape → List ℕ → List ℕ → Type 0
IsConverted a b t o text = (p : List ℕ) × Converts a b t o p × (text ≡ encode_lower p)

-- they encode a value that is too long by the other rules
abbrev pub IsNotConverted : Ruling → Ruling → Shape → List ℕ → List ℕ → Type 0
IsNotConverted a b t o text = (v : Datum) × Encoded a t v o × IsTooLong b t v × (text ≡ codes "! too long")

-- a field that was skipped: its index among the additions of its type, and its octets in hexadecimal
abbrev pub skipped_text : Skipped → List ℕ
skipped_text s = codes " +" ++ (decimal s.place ++ (codes ":" ++ encode_lower s.octets))

abbrev pub skipped_texts : List Skipped → List ℕ
skipped_texts [] = []
skipped_texts (s ∷ ss) = skipped_text s ++ skipped_texts ss

-- the JSON of what is read of a message of a newer or older sender, and the fields that are skipped in it
abbrev pub newer_text : Shape → Datum → List Skipped → List ℕ
newer_text t v s = compact_text (json_of t v) ++ skipped_texts s

abbrev pub ShowsNewer : LooseCoding → Shape → List ℕ → List ℕ → Type 0
ShowsNewer l t o text =
    (v : Datum) × (s : List Skipped) × IsLoose l t v s o × (length o ≤ max_octets) × (text ≡ newer_text t v s)

-- why nothing is read of them
abbrev pub IsNotRead : LooseCoding → Shape → List ℕ → List ℕ → Type 0
IsNotRead l t o text = (fault : NewerFault) × NotNewer l t o fault × TellsNewerFault fault text

-- what is answered to octets, by order: true where it is no refusal
abbrev pub AnswersShow : Ruling → RuleName → Shape → List ℕ → List ℕ → Bool → Type 0
AnswersShow r name t o text true = Shows r t o text
AnswersShow r name t o text false = IsNotDecoded r name t o text

abbrev pub AnswersCheck : Ruling → RuleName → Shape → List ℕ → List ℕ → Bool → Type 0
AnswersCheck r name t o text true = Checks r t o text
AnswersCheck r name t o text false = IsNotDecoded r name t o text

abbrev pub AnswersConvert : Ruling → Ruling → RuleName → Shape → List ℕ → List ℕ → Bool → Type 0
AnswersConvert a b name t o text true = IsConverted a b t o text
AnswersConvert a b name t o text false = IsNotDecoded a name t o text ⊎ IsNotConverted a b t o text

abbrev pub AnswersNewer : LooseCoding → Shape → List ℕ → List ℕ → Bool → Type 0
AnswersNewer l t o text true = ShowsNewer l t o text
AnswersNewer l t o text false = IsNotRead l t o text

abbrev pub AnswersOctets : Terms → Order → List ℕ → List ℕ → Bool → Type 0
AnswersOctets w order.Show o text good = AnswersShow w.rulings.from w.name w.shape o text good
AnswersOctets w order.Check o text good = AnswersCheck w.rulings.from w.name w.shape o text good
AnswersOctets w order.Convert o text good = AnswersConvert w.rulings.from w.rulings.to w.name w.shape o text good
AnswersOctets w order.Newer o text good = AnswersNewer w.rulings.newer w.shape o text good
AnswersOctets w order.Encode o text good = ⊥

-- the digits of a line: a CARRIAGE RETURN at its end is left out
abbrev pub line_digits : List ℕ → List ℕ
line_digits line = strip_last 13 line

-- the line is no hexadecimal
abbrev pub IsNoHex : List ℕ → Type 0
IsNoHex line = (octets : List ℕ) → decode_of (line_digits line) ≡ Ok octets → ⊥

-- what is answered to a line of hexadecimal
abbrev pub AnswersHex : Terms → Order → List ℕ → List ℕ → Bool → Type 0
AnswersHex w by line text good =
    (IsNoHex line × (text ≡ codes "! hex") × (good ≡ false))
    ⊎ ((octets : List ℕ) × (decode_of (line_digits line) ≡ Ok octets) × AnswersOctets w by octets text good)

-- ---- JSON

-- why the line is not read as JSON: it is none, or an object has a key twice
abbrev pub IsRefusedText : List ℕ → List ℕ → Type 0
IsRefusedText line text =
    (IsNoJson line × (text ≡ codes "! json"))
    ⊎ ((path : List ℕ) × RepeatsKey line × IsPlainPath path × (text ≡ codes "! shape " ++ path))

-- why it shows no value: the first error of its shape, or that it shows none of the type
abbrev pub IsNotShown : Shape → Data → List ℕ → Type 0
IsNotShown t j text =
    ((path : List ℕ) × (slice_get (bad t j) 0 ≡ Some path) × (text ≡ codes "! shape " ++ path))
    ⊎ ((bad t j ≡ []) × ((v : Datum) → Shown t j v → ¬ Fits t v) × (text ≡ codes "! not of type"))

-- that the value that it shows is too long
abbrev pub IsNotWritten : Ruling → Shape → Data → List ℕ → Type 0
IsNotWritten r t j text = (v : Datum) × Shown t j v × Fits t v × IsTooLong r t v × (text ≡ codes "! too long")

-- what is answered to the JSON of a value
abbrev pub AnswersValue : Ruling → Shape → Data → List ℕ → Bool → Type 0
AnswersValue r t j text true = (v : Datum) × (o : List ℕ) × Shown t j v × Encoded r t v o × (text ≡ encode_lower o)
AnswersValue r t j text false = IsNotShown t j text ⊎ IsNotWritten r t j text

-- what is answered to a line of JSON
abbrev pub AnswersJson : Ruling → Shape → List ℕ → List ℕ → Bool → Type 0
AnswersJson r t line text good =
    (IsRefusedText line text × (good ≡ false))
    ⊎ ((j : Data) × IsJson line j × AnswersValue r t j text good)

-- ---- a line

abbrev pub AnswersBy : Terms → Order → List ℕ → List ℕ → Bool → Type 0
AnswersBy w order.Encode line text good = AnswersJson w.rulings.from w.shape line text good
AnswersBy w order.Show line text good = AnswersHex w order.Show line text good
AnswersBy w order.Check line text good = AnswersHex w order.Check line text good
AnswersBy w order.Convert line text good = AnswersHex w order.Convert line text good
AnswersBy w order.Newer line text good = AnswersHex w order.Newer line text good

-- the answer to a line, without its LF: true where it is no refusal
abbrev pub Answers : Terms → List ℕ → List ℕ → Bool → Type 0
Answers w line text good = AnswersBy w w.order line text good
