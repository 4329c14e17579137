use Rattle.std.proofs.Common.{◌≡◌, ◌≢◌, ◌∙◌, ◌++◌, Some, None, map, sym, ap}
use Rattle.std.proofs.lemmas.Result.{IfOk-weaker, IfErr-weaker}
use Rattle.asn_values.specs.declared.value.Value.{Value}
use Rattle.asn_values.specs.LookUp.{added}
use Rattle.asn_values.specs.View.{shape_of, datum_of, branch_of}
use Rattle.asn_view.specs.declared.fault.BuildFault.{BuildFault}
use Rattle.asn_view.specs.declared.fault.BuildFault.TheVariants as fault
use Rattle.asn_view.specs.Built.{among_branches, choice_given}
use Rattle.asn_view.proofs.Builds.{choice_of_branches}
use Rattle.asn_view.proofs.building.ValueByName.choice.Goals as goal

pub returns-in-Choice-clause-value : goal.returns-in-Choice-clause-value
returns-in-Choice-clause-value c =
    let arm = c.in-Choice in
    let name = c.args.name.now in
    let whole = choice_of_branches c.args.ty.now name c.args.given arm.root arm.ext arm.is
    ∙ ap (λ alts. among_branches name c.args.given (map branch_of (alts ++ added arm.ext))) (sym c.deref.ensures.value) in
    IfOk-weaker c.choice_of.result
    (λ (v : Value). among_branches name c.args.given (map branch_of (c.deref.result.now ++ added arm.ext)) ≡ Some (datum_of v))
    (λ (v : Value). choice_given (shape_of c.args.ty.now) name c.args.given ≡ Some (datum_of v))
    (λ v h. whole ∙ h) c.choice_of.ensures.value

pub returns-in-Choice-clause-none : goal.returns-in-Choice-clause-none
returns-in-Choice-clause-none c =
    let arm = c.in-Choice in
    let name = c.args.name.now in
    let whole = choice_of_branches c.args.ty.now name c.args.given arm.root arm.ext arm.is
    ∙ ap (λ alts. among_branches name c.args.given (map branch_of (alts ++ added arm.ext))) (sym c.deref.ensures.value) in
    IfErr-weaker c.choice_of.result
    (λ (why : BuildFault). why ≢ fault.Memory → among_branches name c.args.given (map branch_of (c.deref.result.now ++ added arm.ext)) ≡ None)
    (λ (why : BuildFault). why ≢ fault.Memory → choice_given (shape_of c.args.ty.now) name c.args.given ≡ None)
    (λ why h told. whole ∙ h told) c.choice_of.ensures.none
