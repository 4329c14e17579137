-- What is written of lines whose values are within a budget, or over it.
use Rattle.std.proofs.Common.{◌≡◌, ℕ, Bool, List, inl, inr}
use Rattle.asn_values.specs.View.{shape_of}
use Rattle.asn_values.specs.declared.types.AsnType.{AsnType}
use Rattle.asn_rules.specs.Faults.{State}
use Rattle.asn_plan.specs.declared.budget.Taken.{Taken}
use Rattle.asn_convert.specs.Named.{OneTold, OneBegun}
use Rattle.asn_convert.specs.Text.{IsFront, Stops, Writes, ended}
use Rattle.asn_jobs.specs.declared.job.Order.{Order}
use Rattle.asn_jobs.specs.declared.job.RuleName.{RuleName}
use Rattle.asn_jobs.specs.declared.job.RunFault.{RunFault}
use Rattle.asn_convert.proofs.Told.{stops_so, writes_so}
use Rattle.asn_look.specs.Budget.{IsLineOver, IsLineWithin, over_text}
use Rattle.asn_tool.specs.declared.budget.Answered.TheVariants as answered
use Rattle.asn_tool.specs.Budget.{BegunWithin, ToldWithin}

module _ (name : RuleName) (by : Order) (t : AsnType) (most : ℕ) (line : List ℕ) (old new : State) where
  pub line_told : (good : Bool) → IsLineWithin name by (shape_of t) most line → Writes (λ out. OneTold name by t line good out) old new
      → Writes (λ out. ToldWithin name by t most line (answered.Line good) out) old new
  line_told good within told = writes_so (λ out. OneTold name by t line good out) (λ out. ToldWithin name by t most line (answered.Line good) out) old new (λ out h. (within, h)) told

  pub line_begun : (why : RunFault) → Stops why (λ out. OneBegun name by t line out) old new → Stops why (λ out. BegunWithin name by t most line out) old new
  line_begun why begun = stops_so why (λ out. OneBegun name by t line out) (λ out. BegunWithin name by t most line out) old new (λ out h. inl h) begun

  pub over_told : (n : Taken) → IsLineOver name by (shape_of t) most line n → Writes (λ out. out ≡ ended (over_text n)) old new
      → Writes (λ out. ToldWithin name by t most line (answered.Over n) out) old new
  over_told n over told = writes_so (λ out. out ≡ ended (over_text n)) (λ out. ToldWithin name by t most line (answered.Over n) out) old new (λ out h. (over, h)) told

  pub over_begun : (n : Taken) → IsLineOver name by (shape_of t) most line n → (why : RunFault) → Stops why (λ out. IsFront out (ended (over_text n))) old new
      → Stops why (λ out. BegunWithin name by t most line out) old new
  over_begun n over why begun = stops_so why (λ out. IsFront out (ended (over_text n))) (λ out. BegunWithin name by t most line out) old new (λ out h. inr (n, over, h)) begun
