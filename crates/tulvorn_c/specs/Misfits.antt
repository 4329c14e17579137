-- Where a value or JSON is none of a type.
use Rattle.std.specs.Prelude.{◌≡◌, ◌⊎◌, ◌↔◌, ◌++◌, ℕ, true, List, [], Option, Some, codes, string_bytes}
use Rattle.serde_json.specs.Data.{Data}
use Rattle.asn_values.specs.Datum.{Datum}
use Rattle.asn_values.specs.Shape.{Shape}
use Rattle.asn_values.specs.Fits.{Fits}
use Rattle.asn_view.specs.Typed.{Typed}
use Rattle.asn_constraints.specs.Constraints.{meets}
use Rattle.asn_json.specs.Texts.{IsJson, IsNoJson, RepeatsKey}
use Rattle.asn_json.specs.Errors.{Shown, Refused}
use Rattle.asn_json.specs.declared.fault.JsonFault.{JsonFault}
use Rattle.asn_json.specs.declared.fault.JsonFault.TheVariants as json
use Rattle.tulvorn_c.specs.declared.object.Object.{Object}
use Rattle.tulvorn_c.specs.declared.fault.Fault.{Fault}
use Rattle.tulvorn_c.specs.Answers.{Asked}
use Rattle.tulvorn_c.specs.Faults.{plain, done, no_memory}
use Rattle.tulvorn_c.specs.Held.{Constrained, held_octets}

-- where one handle holds no type, or another no value, the fault is misuse and what the call writes stays as it was;
-- else the answer is told of both
abbrev pub AskedOf : Option Constrained → Option Typed → Type 0 → (Constrained → Typed → Fault → Type 0) → Fault → Type 0
AskedOf t v Stays Tells fault = Asked t Stays (λ t. Asked v Stays (Tells t)) fault

-- the handle then holds a text, which is empty exactly if the value fits the type and meets its constraint
pub record HoldsMisfit (t : Constrained) (d : Datum) (new : Option Object) : Type 0 where
  pub text : List ℕ
  pub held : held_octets new ≡ Some text
  pub empty : (text ≡ []) ↔ (Fits t.shape d × (meets t.constraint d ≡ true))

abbrev pub TellsMisfit : Option Object → Option Object → Constrained → Datum → Fault → Type 0
TellsMisfit old new t d fault = ((fault ≡ done) × HoldsMisfit t d new) ⊎ ((fault ≡ no_memory) × (new ≡ old))

-- the text of a fault of JSON
abbrev pub text_of_json : JsonFault → List ℕ
text_of_json (json.Shape path) = codes "not of the type's shape at " ++ string_bytes path
text_of_json json.NotOfType = codes "not of the type"
text_of_json json.Memory = codes "memory"

-- the handle then holds no octets, since the JSON shows a value of the type
abbrev pub HoldsNoFault : Shape → Data → Option Object → Type 0
HoldsNoFault t j new = (held_octets new ≡ Some []) × (d : Datum) × Shown t j d × Fits t d

-- the handle then holds the text of the fault for which it shows none
pub record HoldsFault (t : Shape) (j : Data) (new : Option Object) : Type 0 where
  pub why : JsonFault
  pub held : held_octets new ≡ Some (text_of_json why)
  pub told : why ≡ json.Memory → ⊥
  pub refused : Refused t j why

-- the handle then holds a text that is not empty
pub record HoldsWords (new : Option Object) : Type 0 where
  pub words : List ℕ
  pub held : held_octets new ≡ Some words
  pub some : words ≡ [] → ⊥

abbrev pub TellsJson : List ℕ → Option Object → Option Object → Shape → Fault → Type 0
TellsJson text old new t fault =
    ((fault ≡ done) × (j : Data) × IsJson text j × (HoldsNoFault t j new ⊎ HoldsFault t j new))
    ⊎ ((fault ≡ done) × RepeatsKey text × HoldsWords new)
    ⊎ ((new ≡ old) × (((fault ≡ plain 12) × IsNoJson text) ⊎ (fault ≡ no_memory)))
