-- Messages whose values may take no more than a budget.
use Rattle.std.specs.Prelude.{◌≡◌, ◌⊎◌, ℕ, true, false, Ok, Err, List, length, Option, Some}
use Rattle.asn_values.specs.View.{datum_of}
use Rattle.asn_values.specs.declared.value.Value.{Value}
use Rattle.asn_constraints.specs.Constraints.{free, meets}
use Rattle.asn_rules.specs.Answer.{Ruling}
use Rattle.asn_rules.specs.declared.units.Unit.{Unit}
use Rattle.asn_plan.specs.Within.{CheckedWithin, DecodedWithin}
use Rattle.asn_plan.specs.declared.budget.Budget as plan
use Rattle.asn_plan.specs.declared.budget.Taken.{Taken}
use Rattle.asn_plan.specs.declared.budget.WithinFault.{WithinFault}
use Rattle.tulvorn_c.specs.declared.object.Object.{Object}
use Rattle.tulvorn_c.specs.declared.fault.Fault.{Fault}
use Rattle.tulvorn_c.specs.declared.within.Budget.{Budget}
use Rattle.tulvorn_c.specs.Faults.{done, no_memory, of_within, broken_after}
use Rattle.tulvorn_c.specs.Held.{Constrained, value_of, held_valued}

-- the budget that C gives
abbrev pub budget_of : Budget → plan.Budget
budget_of b = record { entries = b.entries; octets = b.octets }

-- the octets are the encoding of this value of the type, which is within the budget and meets the constraint
abbrev pub HasWithin : Budget → Ruling → Constrained → List ℕ → Value → Type 0
HasWithin b r t o value =
    DecodedWithin r (budget_of b) (Ok value) t.shape o × (meets t.constraint (datum_of value) ≡ true)

-- that it is within the budget and breaks the constraint
abbrev pub BreaksWithin : Unit → Budget → Ruling → Constrained → List ℕ → Fault → Type 0
BreaksWithin u b r t o fault =
    (fault ≡ broken_after u (length o))
    × (value : Value) × DecodedWithin r (budget_of b) (Ok value) t.shape o × (meets t.constraint (datum_of value) ≡ false)

-- no value of the type within the budget is decoded, as the fault says; or memory was wanting; or it breaks the constraint
abbrev pub IsNotWithin : Unit → Budget → Ruling → Constrained → List ℕ → Fault → Type 0
IsNotWithin u b r t o fault =
    ((why : WithinFault) × (fault ≡ of_within why) × DecodedWithin r (budget_of b) (Err why) t.shape o)
    ⊎ (fault ≡ no_memory) ⊎ BreaksWithin u b r t o fault

-- the same of what is counted alone
abbrev pub IsNotCounted : Budget → Ruling → Constrained → List ℕ → Fault → Type 0
IsNotCounted b r t o fault =
    (t.constraint ≡ free)
    × (why : WithinFault) × (fault ≡ of_within why) × CheckedWithin r (budget_of b) (Err why) t.shape o

abbrev pub IsCounted : Budget → Ruling → Constrained → List ℕ → Type 0
IsCounted b r t o = (t.constraint ≡ free) × (n : Taken) × CheckedWithin r (budget_of b) (Ok n) t.shape o

-- they are the encoding of a value within the budget that meets the constraint, or not
abbrev pub ChecksWithin : Unit → Budget → List ℕ → Ruling → Constrained → Fault → Type 0
ChecksWithin u b o r t fault =
    ((fault ≡ done) × (IsCounted b r t o ⊎ ((value : Value) × HasWithin b r t o value)))
    ⊎ IsNotCounted b r t o fault ⊎ IsNotWithin u b r t o fault

-- the handle then holds the value of the type whose encoding they are
pub record HoldsWithin (b : Budget) (r : Ruling) (t : Constrained) (o : List ℕ) (new : Option Object) : Type 0 where
  pub value : Value
  pub held : held_valued new ≡ Some (value_of t (datum_of value))
  pub decoded : HasWithin b r t o value

abbrev pub DecodesWithin : Unit → Budget → List ℕ → Option Object → Option Object → Ruling → Constrained → Fault → Type 0
DecodesWithin u b o old new r t fault =
    ((fault ≡ done) × HoldsWithin b r t o new) ⊎ ((new ≡ old) × IsNotWithin u b r t o fault)
