-- What is known of octets whose value was counted, and of those that are no encoding.
use Rattle.std.proofs.Common.{◌≡◌, ◌≢◌, ℕ, List, Some, Err, ⊎_elim, arith}
use Rattle.asn_values.specs.Profile.{InProfile}
use Rattle.asn_values.specs.Shape.{Shape}
use Rattle.asn_rules.specs.Answer.{Ruling}
use Rattle.asn_rules.specs.Codec.{Decoded}
use Rattle.asn_rules.specs.Laws.{RulesLaws}
use Rattle.asn_rules.specs.declared.fault.DecodeFault.{DecodeFault}
use Rattle.asn_rules.specs.declared.fault.DecodeFault.TheVariants as decode
use Rattle.asn_rules.proofs.Answer.CodecLaws.{decodes_encoded}
use Rattle.asn_plan.specs.Taken.{IsNoMore, Takes}
use Rattle.asn_plan.specs.Within.{IsTaken}
use Rattle.asn_plan.specs.declared.budget.Taken.{Taken}
use Rattle.asn_look.specs.Budget.{TakesNoMore, budget_of}

-- the value that was counted is the one of the encoding
pub counted_within : (r : Ruling) → RulesLaws r → (t : Shape) → InProfile t → (most : ℕ) (o : List ℕ) (n : Taken)
    → IsTaken r (Some n) t o → IsNoMore n (budget_of most) → TakesNoMore r t most o
counted_within r laws t good most o n h few v e =
    let same : h.1 ≡ v = laws.one_value t h.1 v o good h.2 e.encoding in
    let takes : Takes n v = rw same at h.3 in
    (omega (arith, takes.0, few.0), omega (arith, takes.1, few.1))

-- where a decoder tells a fault, there is none
pub no_encoding : (r : Ruling) → RulesLaws r → (t : Shape) → InProfile t → (most : ℕ) (o : List ℕ) (why : DecodeFault)
    → Decoded r (Err why) t o → why ≢ decode.Memory → TakesNoMore r t most o
no_encoding r laws t good most o why told other v e =
    ⊎_elim (λ h. cc) (λ same. absurd (other cc)) (decodes_encoded r laws t v o (Err why) good e told)
