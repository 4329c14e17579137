-- Lines that are answered within a budget: what the value of a message may take.
use Rattle.std.specs.Prelude.{◌≡◌, ◌⊎◌, ℕ, List}
use Rattle.asn_values.specs.View.{shape_of}
use Rattle.asn_values.specs.declared.types.AsnType.{AsnType}
use Rattle.asn_plan.specs.declared.budget.Taken.{Taken}
use Rattle.asn_convert.specs.Named.{OneTold, OneBegun}
use Rattle.asn_convert.specs.Text.{IsFront, ended}
use Rattle.asn_jobs.specs.declared.job.Order.{Order}
use Rattle.asn_jobs.specs.declared.job.RuleName.{RuleName}
use Rattle.asn_look.specs.Budget.{IsLineOver, IsLineWithin, over_text}
use Rattle.asn_tool.specs.declared.budget.Answered.{Answered}
use Rattle.asn_tool.specs.declared.budget.Answered.TheVariants as answered

-- what is written of a line, with its LF: its answer, where its value is within the budget, and else the refusal
abbrev pub ToldWithin : RuleName → Order → AsnType → ℕ → List ℕ → Answered → List ℕ → Type 0
ToldWithin name by t most line (answered.Line good) out =
    IsLineWithin name by (shape_of t) most line × OneTold name by t line good out
ToldWithin name by t most line (answered.Over n) out =
    IsLineOver name by (shape_of t) most line n × (out ≡ ended (over_text n))

-- a beginning of it
abbrev pub BegunWithin : RuleName → Order → AsnType → ℕ → List ℕ → List ℕ → Type 0
BegunWithin name by t most line out =
    OneBegun name by t line out
    ⊎ ((n : Taken) × IsLineOver name by (shape_of t) most line n × IsFront out (ended (over_text n)))
