-- Messages of newer and older senders, and the fields of them that the type has not.
use Rattle.std.specs.Prelude.{◌≡◌, ◌⊎◌, ℕ, true, false, List, length, Option, Some, slice_get, MatchOption}
use Rattle.asn_values.specs.View.{datum_of}
use Rattle.asn_constraints.specs.Constraints.{meets}
use Rattle.asn_constraints.specs.Spelling.{spelling}
use Rattle.asn_newer.specs.Loose.{LooseCoding}
use Rattle.asn_newer.specs.Reading.{IsNewer, NotNewer, skipped_seen}
use Rattle.asn_newer.specs.Skipped as fields
use Rattle.asn_newer.specs.declared.fault.NewerFault.{NewerFault}
use Rattle.asn_newer.specs.declared.fault.NewerFault.TheVariants as newer_fault
use Rattle.asn_rules.specs.declared.newer.Newer.{Newer}
use Rattle.tulvorn_c.specs.declared.object.Object.{Object}
use Rattle.tulvorn_c.specs.declared.fault.Fault.{Fault}
use Rattle.tulvorn_c.specs.Answers.{AreAsBefore, Copies}
use Rattle.tulvorn_c.specs.Faults.{plain, done, of_newer}
use Rattle.tulvorn_c.specs.Held.{Constrained, value_of, held_valued, held_skipped}

-- the handles hold the value that is read of the octets, and the fields that are skipped
pub record HoldsNewer (l : LooseCoding) (t : Constrained) (o : List ℕ) (value skipped : Option Object) : Type 0 where
  pub newer : Newer
  pub held : held_valued value ≡ Some (value_of t (datum_of newer.value))
  pub fields_held : held_skipped skipped ≡ Some (skipped_seen newer.skipped.items)
  pub read : IsNewer l t.shape newer o
  pub spelt : meets (spelling t.constraint) (datum_of newer.value) ≡ true

-- the octets are read as a value that breaks what the constraint says of spelling
pub record BreaksSpelling (l : LooseCoding) (t : Constrained) (o : List ℕ) : Type 0 where
  pub newer : Newer
  pub read : IsNewer l t.shape newer o
  pub broken : meets (spelling t.constraint) (datum_of newer.value) ≡ false

-- or as no message of any version
abbrev pub NotNewerUnder : LooseCoding → Constrained → List ℕ → NewerFault → Type 0
NotNewerUnder l t o why = NotNewer l t.shape o why ⊎ ((why ≡ newer_fault.Refused) × BreaksSpelling l t o)

-- as the fault tells
pub record IsNotNewer (l : LooseCoding) (t : Constrained) (o : List ℕ) (fault : Fault) : Type 0 where
  pub why : NewerFault
  pub told : fault ≡ of_newer why
  pub holds : NotNewerUnder l t o why

-- the two handles as they were
abbrev pub BothStay : Option Object → Option Object → Option Object → Option Object → Type 0
BothStay value value' skipped skipped' = (value' ≡ value) × (skipped' ≡ skipped)

abbrev pub ReadsNewer : LooseCoding → List ℕ → Option Object → Option Object → Option Object → Option Object
    → Constrained → Fault → Type 0
ReadsNewer l o value value' skipped skipped' t fault =
    ((fault ≡ done) × HoldsNewer l t o value' skipped')
    ⊎ (BothStay value value' skipped skipped' × IsNotNewer l t o fault)

-- how many fields there are
abbrev pub TellsFields : ℕ → List fields.Skipped → Fault → Type 0
TellsFields new skipped fault = (fault ≡ done) × (new ≡ length skipped)

-- the field at the index: its place among the additions of its type, and its octets, put in front of others
abbrev pub TellsField : ℕ → ℕ → ℕ → List ℕ → List ℕ → ℕ → ℕ → List fields.Skipped → Fault → Type 0
TellsField index place place' old new before after skipped fault =
    MatchOption (slice_get skipped index)
    ((fault ≡ plain 14) × (place' ≡ place) × AreAsBefore old new before after) (λ field.
    (place' ≡ field.place) × Copies old new after field.octets fault)
