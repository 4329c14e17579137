-- Faults in words, and other texts.
use Rattle.std.specs.Prelude.{◌≡◌, ◌⊎◌, ◌++◌, ◌&&◌, ℕ, Bool, List, [], codes, string_bytes, Option, Some, None, Err, option_map, nat_eq, if◌then◌else◌}
use Rattle.std.specs.Fmt.{decimal}
use Rattle.asn_values.specs.Datum.{Datum}
use Rattle.asn_rules.specs.Answer.{Ruling}
use Rattle.asn_rules.specs.Reasons.{text_of_fault, name_of_unit}
use Rattle.asn_rules.specs.declared.fault.Why.{Why}
use Rattle.asn_rules.specs.declared.fault.Why.TheVariants as why
use Rattle.asn_rules.specs.declared.fault.DecodeFault.{DecodeFault}
use Rattle.asn_rules.specs.declared.fault.DecodeFault.TheVariants as decode
use Rattle.asn_rules.specs.declared.units.Unit.{Unit}
use Rattle.asn_rules.specs.declared.units.Unit.TheVariants as unit
use Rattle.asn_constraints.specs.declared.broken.Broken.{Broken}
use Rattle.asn_constrained.specs.Under.{IsEncodingUnder, DecodedUnder}
use Rattle.asn_constrained.specs.declared.fault.ConstrainedFault.TheVariants as under
use Rattle.asn_explain.specs.Texts.{text_in}
use Rattle.asn_explain.specs.declared.explanation.Explanation.{Explanation}
use Rattle.tulvorn_c.specs.declared.object.Object.{Object}
use Rattle.tulvorn_c.specs.declared.fault.Fault.{Fault}
use Rattle.tulvorn_c.specs.Faults.{done, no_memory, misuse}
use Rattle.tulvorn_c.specs.Held.{Constrained, held_octets}

-- the version of the library
abbrev pub version : List ℕ
version = codes "0.1.0"

-- the handle then holds this text, or memory was wanting
abbrev pub HoldsText : List ℕ → Option Object → Option Object → Fault → Type 0
HoldsText text old new fault =
    ((fault ≡ done) × (held_octets new ≡ Some text)) ⊎ ((fault ≡ no_memory) × (new ≡ old))

-- ---- faults

-- the unit of the encoding rules of that number
abbrev pub unit_of : ℕ → Option Unit
unit_of n = if nat_eq n 0 then Some unit.Bit else if nat_eq n 1 then Some unit.Octet else None

-- the reason of that number
abbrev pub why_of : ℕ → Option Why
why_of n =
    if nat_eq n 1 then Some why.Sealed else if nat_eq n 2 then Some why.Default else if nat_eq n 3 then Some why.Length
    else if nat_eq n 4 then Some why.Extension else if nat_eq n 5 then Some why.Character
    else if nat_eq n 6 then Some why.Padding else if nat_eq n 7 then Some why.Number else None

-- the fault of decoding that the numbers tell
abbrev pub decode_fault_of : Fault → Option DecodeFault
decode_fault_of fault =
    if nat_eq fault.code 3 then option_map (decode.Refused fault.at) (why_of fault.why)
    else if nat_eq fault.code 4 then Some (decode.Truncated fault.at)
    else if nat_eq fault.code 5 then Some (decode.Rest fault.at)
    else None

-- the words of the other codes
abbrev pub words_of_code : ℕ → List ℕ
words_of_code n =
    if nat_eq n 0 then codes "done" else if nat_eq n 1 then codes "memory" else if nat_eq n 2 then codes "misuse"
    else if nat_eq n 3 then codes "refused" else if nat_eq n 6 then codes "too long"
    else if nat_eq n 7 then codes "too short" else if nat_eq n 8 then codes "not UTF-8"
    else if nat_eq n 9 then codes "no module" else if nat_eq n 10 then codes "no such name"
    else if nat_eq n 11 then codes "not of the type" else if nat_eq n 12 then codes "no JSON"
    else if nat_eq n 13 then codes "not of the type's shape" else if nat_eq n 14 then codes "no such path"
    else if nat_eq n 15 then codes "another kind" else if nat_eq n 16 then codes "no message"
    else if nat_eq n 17 then codes "cut short" else if nat_eq n 18 then codes "too many additions"
    else if nat_eq n 19 then codes "more octets wanted" else if nat_eq n 20 then codes "session spent"
    else if nat_eq n 21 then codes "absent" else if nat_eq n 22 then codes "over budget"
    else if nat_eq n 23 then codes "constraint too large"
    else if nat_eq n 24 then codes "too many levels"
    else codes "unknown code"

abbrev pub words_by : Unit → ℕ → Option DecodeFault → List ℕ
words_by u code (Some why) = text_of_fault u why
words_by u code None = words_of_code code

-- the refusal of a value that breaks its constraint
abbrev pub is_broken : Fault → Bool
is_broken fault = nat_eq fault.code 3 && nat_eq fault.why 8

abbrev pub words_of_broken : Unit → ℕ → List ℕ
words_of_broken u at = codes "refused at " ++ (name_of_unit u ++ (codes " " ++ (decimal at ++ codes ": constraint")))

abbrev pub words_of : Unit → Fault → List ℕ
words_of u fault =
    if is_broken fault then words_of_broken u fault.at else words_by u fault.code (decode_fault_of fault)

abbrev pub TellsWords : Option Unit → Fault → Option Object → Option Object → Fault → Type 0
TellsWords None told old new fault = (fault ≡ misuse) × (new ≡ old)
TellsWords (Some u) told old new fault = HoldsText (words_of u told) old new fault

-- ---- explanations

-- the unit of the encoding rules of that number, 0 or 1
abbrev pub unit_in : ℕ → Unit
unit_in n = if nat_eq n 0 then unit.Bit else unit.Octet

-- the octets are the encoding of a value that meets the constraint, and the handle then holds no octets
abbrev pub HoldsNothing : List ℕ → Option Object → Ruling → Constrained → Type 0
HoldsNothing o new r t =
    (held_octets new ≡ Some []) × (d : Datum) × IsEncodingUnder r t.shape t.constraint d o

-- the handle then holds the text of what a decoder tells of the octets
pub record HoldsExplanation (u : Unit) (o : List ℕ) (new : Option Object) (r : Ruling) (t : Constrained) : Type 0 where
  pub explained : Explanation
  pub held : held_octets new ≡ Some (text_in (name_of_unit u) (string_bytes explained.path) explained.fault)
  pub told : DecodedUnder r t.constraint (Err (under.Type explained.fault)) t.shape o
  pub not_memory : explained.fault ≡ decode.Memory → ⊥

-- the handle then holds words about how their value breaks the constraint
pub record HoldsBroken (o : List ℕ) (new : Option Object) (r : Ruling) (t : Constrained) : Type 0 where
  pub words : List ℕ
  pub held : held_octets new ≡ Some words
  pub not_empty : words ≡ [] → ⊥
  pub used : ℕ
  pub broken : Broken
  pub told : DecodedUnder r t.constraint (Err (under.Broken used broken)) t.shape o

abbrev pub IsExplained : Unit → List ℕ → Option Object → Ruling → Constrained → Type 0
IsExplained u o new r t = HoldsNothing o new r t ⊎ HoldsExplanation u o new r t ⊎ HoldsBroken o new r t

abbrev pub TellsExplanation : Unit → List ℕ → Option Object → Option Object → Ruling → Constrained → Fault → Type 0
TellsExplanation u o old new r t fault =
    ((fault ≡ done) × IsExplained u o new r t) ⊎ ((fault ≡ no_memory) × (new ≡ old))
