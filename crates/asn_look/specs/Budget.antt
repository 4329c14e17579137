-- Values that take more than a budget.
use Rattle.std.specs.Prelude.{◌≡◌, ◌++◌, ℕ, List, codes, Option, Some, None, Ok, ⊤}
use Rattle.std.specs.Fmt.{decimal}
use Rattle.hex.specs.Hex.{decode_of}
use Rattle.asn_values.specs.Datum.{Datum}
use Rattle.asn_values.specs.Shape.{Shape}
use Rattle.asn_rules.specs.Answer.{Ruling}
use Rattle.asn_rules.specs.CodecLaws.{Encoded}
use Rattle.asn_plan.specs.Taken.{IsNoMore, IsWithin}
use Rattle.asn_plan.specs.Within.{IsTaken}
use Rattle.asn_plan.specs.declared.budget.Budget.{Budget}
use Rattle.asn_plan.specs.declared.budget.Taken.{Taken}
use Rattle.asn_jobs.specs.declared.job.Order.{Order}
use Rattle.asn_jobs.specs.declared.job.Order.TheVariants as order
use Rattle.asn_jobs.specs.declared.job.RuleName.{RuleName}
use Rattle.asn_look.specs.Named.{ruling_of}

-- ---- octets

-- as many entries as this, and as many octets of strings
abbrev pub budget_of : ℕ → Budget
budget_of most = record { entries = most; octets = most }

-- they are the encoding of a value that takes so much, which is over the budget
abbrev pub IsOver : Ruling → Shape → ℕ → List ℕ → Taken → Type 0
IsOver r t most octets n = IsTaken r (Some n) t octets × (IsNoMore n (budget_of most) → ⊥)

-- the value of which they are the encoding, if of any, is within the budget
abbrev pub TakesNoMore : Ruling → Shape → ℕ → List ℕ → Type 0
TakesNoMore r t most octets = (v : Datum) → Encoded r t v octets → IsWithin (budget_of most) v

-- what is found of them: what their value takes where it is over the budget
abbrev pub Counts : Ruling → Shape → ℕ → List ℕ → Option Taken → Type 0
Counts r t most octets None = TakesNoMore r t most octets
Counts r t most octets (Some n) = IsOver r t most octets n

-- ---- a line

-- the lines of the order are encodings of the type
abbrev pub IsOfEncodings : Order → Type 0
IsOfEncodings order.Show = ⊤
IsOfEncodings order.Check = ⊤
IsOfEncodings order.Convert = ⊤
IsOfEncodings order.Encode = ⊥
IsOfEncodings order.Newer = ⊥

-- it is the hexadecimal of octets whose value takes so much, which is over the budget
abbrev pub IsLineOver : RuleName → Order → Shape → ℕ → List ℕ → Taken → Type 0
IsLineOver name by t most line n =
    IsOfEncodings by × ((octets : List ℕ) × (decode_of line ≡ Ok octets) × IsOver (ruling_of name) t most octets n)

-- it is not
abbrev pub IsLineWithin : RuleName → Order → Shape → ℕ → List ℕ → Type 0
IsLineWithin name by t most line =
    IsOfEncodings by → (octets : List ℕ) → decode_of line ≡ Ok octets → TakesNoMore (ruling_of name) t most octets

abbrev pub CountsLine : RuleName → Order → Shape → ℕ → List ℕ → Option Taken → Type 0
CountsLine name by t most line None = IsLineWithin name by t most line
CountsLine name by t most line (Some n) = IsLineOver name by t most line n

-- the refusal of such a line
abbrev pub over_text : Taken → List ℕ
over_text n = codes "! over budget: " ++ (decimal n.entries ++ (codes " entries, " ++ (decimal n.octets ++ codes " octets")))
