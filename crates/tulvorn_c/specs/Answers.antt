-- What calls answer, by the objects that handles held before (old) and hold after (new).
use Rattle.std.specs.Prelude.{◌≡◌, ◌⊎◌, ◌<◌, ◌≤◌, ◌++◌, drop, ℕ, true, Ok, Err, List, [], length, Option, Some, None, nat_eq, if◌then◌else◌, IsUtf8}
use Rattle.serde_json.specs.Data.{Data}
use Rattle.serde_json.specs.Written.{compact_text}
use Rattle.asn_values.specs.Datum.{Datum}
use Rattle.asn_values.specs.Shape.{Shape}
use Rattle.asn_values.specs.Fits.{Fits}
use Rattle.asn_values.specs.Received.{FitsReceived}
use Rattle.asn_values.specs.View.{datum_of}
use Rattle.asn_values.specs.declared.value.Value.{Value}
use Rattle.asn_view.specs.Typed.{Typed}
use Rattle.asn_module.specs.Accepted.{ModuleTypes, Accepted, type_in}
use Rattle.asn_module.specs.declared.fault.ModuleFault.{ModuleFault}
use Rattle.asn_module.specs.Bounded.{TellsRead}
use Rattle.asn_module.specs.Sizes.{most_size, types_size}
use Rattle.asn_rules.specs.Answer.{Ruling, max_octets}
use Rattle.asn_rules.specs.Measured.{IsLength, Placed}
use Rattle.asn_rules.specs.declared.units.Unit.{Unit}
use Rattle.asn_rules.specs.declared.fault.EncodeFault.{EncodeFault}
use Rattle.asn_rules.specs.declared.fault.LengthFault.{LengthFault}
use Rattle.asn_rules.specs.declared.fault.EncodeIntoFault.{EncodeIntoFault}
use Rattle.asn_per.specs.Rules.{per_ruling}
use Rattle.asn_oer.specs.Rules.{oer_ruling}
use Rattle.asn_json.specs.Texts.{IsJson, IsNoJson, RepeatsKey}
use Rattle.asn_constraints.specs.Constraints.{meets}
use Rattle.asn_constrained.specs.Under.{IsEncodingUnder, DecodedUnder, NotEncodedUnder}
use Rattle.asn_constrained.specs.Measured.{NotMeasuredUnder, NotPlacedUnder}
use Rattle.asn_constrained.specs.Converted.{ConvertsUnder, ConvertedUnder}
use Rattle.asn_constrained.specs.declared.conversion.ConvertFault.{ConvertFault}
use Rattle.asn_constrained.specs.declared.fault.ConstrainedFault.{ConstrainedFault}
use Rattle.asn_json.specs.Written.{json_of}
use Rattle.asn_json.specs.Errors.{Shown, Refused}
use Rattle.asn_json.specs.declared.fault.JsonFault.{JsonFault}
use Rattle.tulvorn_c.specs.declared.object.Object.{Object}
use Rattle.tulvorn_c.specs.declared.fault.Fault.{Fault}
use Rattle.tulvorn_c.specs.Faults.{plain, done, no_memory, misuse, large_constraint, of_constrained, of_converted, of_encode, of_length, of_encode_into, of_json, of_module, bad_constraint}
use Rattle.tulvorn_c.specs.Held.{Constrained, Valued, value_of, held_module, held_constrained, held_valued, held_octets}

-- ---- what a call is asked of

-- the encoding rules of that number
abbrev pub ruling_of : ℕ → Option Ruling
ruling_of n = if nat_eq n 0 then Some per_ruling else if nat_eq n 1 then Some oer_ruling else None

-- where the handle holds no such thing the fault is misuse and what the call writes stays as it was; else the answer is
-- told of that thing
abbrev pub Asked : {A : Type 0} → Option A → Type 0 → (A → Fault → Type 0) → Fault → Type 0
Asked None Stays Tells fault = (fault ≡ misuse) × Stays
Asked (Some a) Stays Tells fault = Tells a fault

-- likewise where the number is that of no encoding rules
abbrev pub AskedBy : {A : Type 0} → Option A → Option Ruling → Type 0 → (Ruling → A → Fault → Type 0) → Fault → Type 0
AskedBy None r Stays Tells fault = (fault ≡ misuse) × Stays
AskedBy (Some a) None Stays Tells fault = (fault ≡ misuse) × Stays
AskedBy (Some a) (Some r) Stays Tells fault = Tells r a fault

-- ---- modules

-- the text is the module that the handle then holds; it is not UTF-8; it is no module; or memory was wanting
abbrev pub IsModuleRead : List ℕ → Option Object → Type 0
IsModuleRead text new = (m : ModuleTypes) × (held_module new ≡ Some m) × Accepted text m

-- a text that is a module has a line with `--:` that is no constraint of it
abbrev pub HasBadLine : List ℕ → Type 0
HasBadLine text = (m : ModuleTypes) × Accepted text m

abbrev pub IsNoModule : List ℕ → Fault → Type 0
IsNoModule text fault =
    ((why : ModuleFault) × (fault ≡ of_module why) × TellsRead text why)
    ⊎ (fault ≡ no_memory) ⊎ ((fault ≡ bad_constraint) × HasBadLine text)

abbrev pub ReadsText : List ℕ → Option Object → Option Object → Fault → Type 0
ReadsText text old new fault =
    ((fault ≡ done) × IsModuleRead text new) ⊎ ((new ≡ old) × IsNoModule text fault)

abbrev pub ReadsModule : List ℕ → Option Object → Option Object → Fault → Type 0
ReadsModule text old new fault =
    ReadsText text old new fault ⊎ ((new ≡ old) × (fault ≡ plain 8) × ¬ IsUtf8 text)

-- the handle then holds no octets, since the text is a module
abbrev pub HoldsNoRefusal : List ℕ → Option Object → Type 0
HoldsNoRefusal text new = (held_octets new ≡ Some []) × (m : ModuleTypes) × Accepted text m

-- the handle then holds words, since the text is no module, or one that is larger than is read
pub record HoldsRefusal (text : List ℕ) (new : Option Object) : Type 0 where
  pub words : List ℕ
  pub held : held_octets new ≡ Some words
  pub not_empty : words ≡ [] → ⊥
  pub refused : (m : ModuleTypes) → Accepted text m → most_size < types_size m.types

-- the handle then holds words about such a line
pub record HoldsBadLine (text : List ℕ) (new : Option Object) : Type 0 where
  pub words : List ℕ
  pub held : held_octets new ≡ Some words
  pub not_empty : words ≡ [] → ⊥
  pub bad : HasBadLine text

abbrev pub TellsText : List ℕ → Option Object → Option Object → Fault → Type 0
TellsText text old new fault =
    ((fault ≡ done) × (HoldsNoRefusal text new ⊎ HoldsRefusal text new ⊎ HoldsBadLine text new)) ⊎ ((fault ≡ no_memory) × (new ≡ old))

abbrev pub TellsModule : List ℕ → Option Object → Option Object → Fault → Type 0
TellsModule text old new fault =
    TellsText text old new fault ⊎ ((new ≡ old) × (fault ≡ plain 8) × ¬ IsUtf8 text)

-- the handle then holds the type that the module assigns to the name, which it does to none that is not UTF-8
abbrev pub FindsName : List ℕ → Option Object → Option Object → ModuleTypes → Fault → Type 0
FindsName name old new m fault =
    ((fault ≡ done) × (t : Constrained) × (type_in m.types name ≡ Some t.shape) × (held_constrained new ≡ Some t))
    ⊎ ((new ≡ old)
    × (((fault ≡ plain 10) × (type_in m.types name ≡ None)) ⊎ (fault ≡ no_memory) ⊎ (fault ≡ large_constraint)))

abbrev pub FindsType : List ℕ → Option Object → Option Object → ModuleTypes → Fault → Type 0
FindsType name old new m fault =
    FindsName name old new m fault ⊎ ((new ≡ old) × (fault ≡ plain 8) × ¬ IsUtf8 name)

-- the other handle then holds the same type
abbrev pub SharesType : Option Object → Option Object → Constrained → Fault → Type 0
SharesType old new t fault =
    ((fault ≡ done) × (held_constrained new ≡ Some t)) ⊎ ((fault ≡ no_memory) × (new ≡ old))

-- ---- messages

-- the octets are not decoded, as the fault tells
pub record IsNotDecoded (u : Unit) (r : Ruling) (t : Constrained) (o : List ℕ) (fault : Fault) : Type 0 where
  pub why : ConstrainedFault
  pub told : fault ≡ of_constrained u why
  pub holds : DecodedUnder r t.constraint (Err why) t.shape o

-- they are the encoding of a value that meets the constraint, or not decoded
abbrev pub Checks : Unit → List ℕ → Ruling → Constrained → Fault → Type 0
Checks u o r t fault =
    ((fault ≡ done) × (d : Datum) × IsEncodingUnder r t.shape t.constraint d o) ⊎ IsNotDecoded u r t o fault

-- the handle then holds the value of the type whose encoding they are, which meets the constraint
pub record HoldsDecoded (r : Ruling) (t : Constrained) (o : List ℕ) (new : Option Object) : Type 0 where
  pub value : Value
  pub held : held_valued new ≡ Some (value_of t (datum_of value))
  pub decoded : DecodedUnder r t.constraint (Ok value) t.shape o

abbrev pub Decodes : Unit → List ℕ → Option Object → Option Object → Ruling → Constrained → Fault → Type 0
Decodes u o old new r t fault =
    ((fault ≡ done) × HoldsDecoded r t o new) ⊎ ((new ≡ old) × IsNotDecoded u r t o fault)

-- the handle then holds the encoding of the value, which meets the constraint of its type
pub record HoldsEncoding (r : Ruling) (v : Valued) (new : Option Object) : Type 0 where
  pub octets : List ℕ
  pub held : held_octets new ≡ Some octets
  pub encoding : IsEncodingUnder r v.value.shape v.constraint v.value.datum octets
  pub within : length octets ≤ max_octets

-- the value is not encoded, as the fault tells
pub record IsNotEncoded (r : Ruling) (v : Valued) (fault : Fault) : Type 0 where
  pub why : EncodeFault
  pub told : fault ≡ of_encode why
  pub holds : NotEncodedUnder r why v.value.shape v.constraint v.value.datum

abbrev pub Encodes : Option Object → Option Object → Ruling → Valued → Fault → Type 0
Encodes old new r v fault =
    ((fault ≡ done) × HoldsEncoding r v new) ⊎ ((new ≡ old) × IsNotEncoded r v fault)

-- the value meets the constraint of its type
abbrev pub IsMet : Valued → Type 0
IsMet v = meets v.constraint v.value.datum ≡ true

-- how many octets the encoding has
abbrev pub Measures : ℕ → ℕ → Ruling → Valued → Fault → Type 0
Measures old new r v fault =
    ((fault ≡ done) × IsMet v × IsLength r v.value.shape v.value.datum new)
    ⊎ ((new ≡ old) × (why : LengthFault) × (fault ≡ of_length why)
    × NotMeasuredUnder r why v.value.shape v.constraint v.value.datum)

-- the encoding is put into the first of the octets, and how many it has is told; or they are as they were
abbrev pub Places : List ℕ → List ℕ → ℕ → ℕ → Ruling → Valued → Fault → Type 0
Places old new before after r v fault =
    ((fault ≡ done) × IsMet v × Placed r v.value.shape v.value.datum after old new)
    ⊎ ((after ≡ before) × (why : EncodeIntoFault) × (fault ≡ of_encode_into why)
    × NotPlacedUnder r why v.value.shape v.constraint v.value.datum old new)

-- the other rules
abbrev pub other_ruling_of : ℕ → Ruling
other_ruling_of n = if nat_eq n 0 then oer_ruling else per_ruling

-- the handle then holds the octets by the rules b of the value that o encodes by the rules a
pub record HoldsConverted (a b : Ruling) (t : Constrained) (o : List ℕ) (new : Option Object) : Type 0 where
  pub octets : List ℕ
  pub held : held_octets new ≡ Some octets
  pub converted : ConvertsUnder a b t.constraint t.shape o octets

pub record IsNotConverted (u : Unit) (a b : Ruling) (t : Constrained) (o : List ℕ) (fault : Fault) : Type 0 where
  pub why : ConvertFault
  pub told : fault ≡ of_converted u why
  pub holds : ConvertedUnder a b t.constraint (Err why) t.shape o

abbrev pub ConvertsTo : Unit → Ruling → List ℕ → Option Object → Option Object → Ruling → Constrained → Fault → Type 0
ConvertsTo u b o old new a t fault =
    ((fault ≡ done) × HoldsConverted a b t o new) ⊎ ((new ≡ old) × IsNotConverted u a b t o fault)

-- the handle then holds these octets, or memory was wanting
abbrev pub HoldsUnlessMemory : List ℕ → Option Object → Fault → Type 0
HoldsUnlessMemory p new fault = ((fault ≡ done) × (held_octets new ≡ Some p)) ⊎ (fault ≡ no_memory)

-- so it is of any octets by the rules b that are of one value with o by the rules a, which meets the constraint
pub record ConvertsExactly (b : Ruling) (o : List ℕ) (new : Option Object) (a : Ruling) (t : Constrained) (fault : Fault)
    : Type 0 where
  pub given : (p : List ℕ) → ConvertsUnder a b t.constraint t.shape o p → HoldsUnlessMemory p new fault

-- ---- JSON

-- the handle then holds the text of the JSON of the value
abbrev pub WritesJson : Option Object → Option Object → Typed → Fault → Type 0
WritesJson old new v fault =
    ((fault ≡ done) × FitsReceived v.shape v.datum × (held_octets new ≡ Some (compact_text (json_of v.shape v.datum))))
    ⊎ ((new ≡ old) × ((fault ≡ no_memory) ⊎ ((fault ≡ plain 11) × ¬ FitsReceived v.shape v.datum)))

-- the handle then holds the value of the type that the JSON shows, whether it meets the constraint or not
pub record HoldsShown (t : Constrained) (j : Data) (new : Option Object) : Type 0 where
  pub datum : Datum
  pub held : held_valued new ≡ Some (value_of t datum)
  pub shown : Shown t.shape j datum
  pub fits : Fits t.shape datum

abbrev pub IsNotShown : Shape → Data → Fault → Type 0
IsNotShown t j fault = (why : JsonFault) × (fault ≡ of_json why) × Refused t j why

-- the text is refused before a type is asked: 12 where it is no JSON that is read, 13 where an object has a key twice
abbrev pub IsRefusedText : List ℕ → Fault → Type 0
IsRefusedText text fault = ((fault ≡ plain 12) × IsNoJson text) ⊎ ((fault ≡ plain 13) × RepeatsKey text)

abbrev pub ReadsJson : List ℕ → Option Object → Option Object → Constrained → Fault → Type 0
ReadsJson text old new t fault =
    ((fault ≡ done) × (j : Data) × IsJson text j × HoldsShown t j new)
    ⊎ ((new ≡ old) × (IsRefusedText text fault ⊎ (fault ≡ no_memory)
    ⊎ ((j : Data) × IsJson text j × IsNotShown t.shape j fault)))

-- ---- octets

-- octets stand in the first places, and the others are as they were
abbrev pub PutInFront : List ℕ → List ℕ → List ℕ → Type 0
PutInFront octets old new = (length octets ≤ length old) × (new ≡ octets ++ drop (length octets) old)

-- octets that were to be written, and how many are told to be wanted, are as they were
abbrev pub AreAsBefore : List ℕ → List ℕ → ℕ → ℕ → Type 0
AreAsBefore old new before after = (new ≡ old) × (after ≡ before)

-- the octets that the handle holds stand in the first places, and the others are as they were; or there are too few
-- places; how many there are is told either way
abbrev pub Copies : List ℕ → List ℕ → ℕ → List ℕ → Fault → Type 0
Copies old new needed octets fault =
    (needed ≡ length octets)
    × (((fault ≡ done) × PutInFront octets old new) ⊎ ((fault ≡ plain 7) × (length old < length octets) × (new ≡ old)))
