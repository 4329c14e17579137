-- What is told of octets whose value may take no more than a budget.
use Rattle.std.specs.Prelude.{◌≤◌, ℕ, List, length, Option, Some, None, Result, Ok, Err, ⊤}
use Rattle.asn_values.specs.Datum.{Datum}
use Rattle.asn_values.specs.Shape.{Shape}
use Rattle.asn_values.specs.View.{datum_of}
use Rattle.asn_values.specs.declared.value.Value.{Value}
use Rattle.asn_rules.specs.Answer.{Ruling, IsEncoding, max_octets}
use Rattle.asn_rules.specs.Codec.{Decoded}
use Rattle.asn_plan.specs.Taken.{Takes, IsNoMore, IsWithin}
use Rattle.asn_plan.specs.declared.budget.Budget.{Budget}
use Rattle.asn_plan.specs.declared.budget.Taken.{Taken}
use Rattle.asn_plan.specs.declared.budget.WithinFault.{WithinFault}
use Rattle.asn_plan.specs.declared.budget.WithinFault.TheVariants as within

-- the octets are the encoding of a value that takes this much; where nothing is told, nothing is known
abbrev pub IsTaken : Ruling → Option Taken → Shape → List ℕ → Type 0
IsTaken r (Some n) t o = (length o ≤ max_octets) × (d : Datum) × IsEncoding r t d o × Takes n d
IsTaken r None t o = ⊤

-- What the value takes whose encoding the octets are, which is within the budget. Over the budget: they are the encoding of
-- a value that takes more. Any other fault is what `decode` tells.
abbrev pub CheckedWithin : Ruling → Budget → Result Taken WithinFault → Shape → List ℕ → Type 0
CheckedWithin r b (Ok n) t o = IsTaken r (Some n) t o × IsNoMore n b
CheckedWithin r b (Err within.OverBudget) t o =
    (length o ≤ max_octets) × (d : Datum) × IsEncoding r t d o × (IsWithin b d → ⊥)
CheckedWithin r b (Err (within.Decode why)) t o = Decoded r (Err why) t o

-- A value: `decode` tells it, and it is within the budget. Over the budget: the octets are the encoding of a value that
-- is not. Any other fault is what `decode` tells.
abbrev pub DecodedWithin : Ruling → Budget → Result Value WithinFault → Shape → List ℕ → Type 0
DecodedWithin r b (Ok v) t o = Decoded r (Ok v) t o × IsWithin b (datum_of v)
DecodedWithin r b (Err within.OverBudget) t o =
    (length o ≤ max_octets) × (d : Datum) × IsEncoding r t d o × (IsWithin b d → ⊥)
DecodedWithin r b (Err (within.Decode why)) t o = Decoded r (Err why) t o
