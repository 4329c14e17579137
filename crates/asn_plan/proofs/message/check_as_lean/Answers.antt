use Rattle.std.proofs.Common.{◌≡◌, ℕ, Bool, true, List, Result, sym, subst}
use Rattle.asn_values.specs.Profile.{InProfile}
use Rattle.asn_values.specs.View.{shape_of}
use Rattle.asn_values.specs.Shape.{Shape}
use Rattle.asn_rules.specs.Answer.{Ruling}
use Rattle.asn_rules.specs.declared.fault.DecodeFault.{DecodeFault}
use Rattle.asn_walk.specs.Coding.{Coding}
use Rattle.asn_walk.specs.Laws.{Laws}
use Rattle.asn_plan.specs.InOrder.{SpellsIndexes}
use Rattle.asn_plan.specs.Lean.{lean}
use Rattle.asn_plan.specs.Nothing.{SpellsNothing}
use Rattle.asn_plan.specs.Plans.{Checks}
use Rattle.asn_plan.proofs.LeanAnswers.{checks_alike}
use Rattle.asn_plan.proofs.Leans.{lean_wholes}
use Rattle.asn_plan.proofs.message.check_as_lean.Goals as goal

-- what is checked by a lean type is checked by the type
leanly : (c : Coding) → Laws c → (single : Bool) → SpellsNothing single c.code
    → (single ≡ true → SpellsIndexes c.code) → (s : Ruling) → c.ruling ≡ s → (t u : Shape)
    → InProfile t → InProfile u → u ≡ lean single t → (a : Result (Unit {0}) DecodeFault) (o : List ℕ) → Checks s a u o
    → Checks s a t o
leanly c laws single law indexes s same t u good fine is a o told =
    let other : InProfile (lean single t) = rw is at fine in
    let alike = lean_wholes c laws single law indexes t good other in
    let here : Checks c.ruling a (lean single t) o = subst (λ (r : Ruling). Checks r a (lean single t) o) (sym same) (rw is at told) in
    subst (λ (r : Ruling). Checks r a t o) same (checks_alike c.ruling t (lean single t) alike a o here)

pub returns : goal.returns
returns g c =
    leanly g.R.ReadLeaves.rules c.keep_laws.ensures c.args._single c.requires.law c.requires.indexes g.R.Rules.ruling g.met.R.PlanRules.same_ruling (shape_of c.args.ty.now) (shape_of c.args.lean.now) c.get.ensures.of_profile c.get-2.ensures.of_profile c.requires.lean c.check_exactly.result c.args.octets.now c.check_exactly.ensures
