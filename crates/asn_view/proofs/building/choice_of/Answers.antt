use Rattle.std.proofs.Common.{◌∙◌, ◌++◌, Some, option_map, sym, ap, ap₂}
use Rattle.std.proofs.lemmas.Result.{err_from_is_err_and}
use Rattle.asn_values.specs.Datum.{alternative}
use Rattle.asn_values.specs.LookUp.{added}
use Rattle.asn_values.specs.View.{datum_of}
use Rattle.asn_values.proofs.Alternatives.{shape_of_branch}
use Rattle.asn_values.proofs.Views.{datum_of-Choice}
use Rattle.asn_view.specs.Built.{datum_given}
use Rattle.asn_view.proofs.Builds.{no_branch, branch_found, branch_past}
use Rattle.asn_view.proofs.building.choice_of.Goals as goal

pub returns-in_default-clause-none : goal.returns-in_default-clause-none
returns-in_default-clause-none c =
    λ _. no_branch c.args.name.now c.args.given (c.args.root.now ++ added c.args.ext.now) c.in_default.ensures.index

pub returns-in_default-part_at-clause-none : goal.returns-in_default-part_at-clause-none
returns-in_default-part_at-clause-none c =
    λ _. branch_past c.args.name.now c.args.given (c.args.root.now ++ added c.args.ext.now) c.in-Some.index c.in-Some.ensures.index c.in_default-part_at.ensures

pub returns-in_err-value-clause-none : goal.returns-in_err-value-clause-none
returns-in_err-value-clause-none c =
    let a = c.in-Some-part_at.alternative.now in
    let p = err_from_is_err_and c.from_residual-in_err-value.result c.from_residual-in_err-value.ensures.1 in
    rw (p.1, p.2)
    (λ told.
    branch_found c.args.name.now c.args.given (c.args.root.now ++ added c.args.ext.now) c.in-Some.index a c.in-Some.ensures.index c.in-Some-part_at.ensures
    ∙ ap (option_map (alternative c.in-Some.index)) (ap (λ t. datum_given t c.args.given) (shape_of_branch a) ∙ c.in_err-value.ensures.none told))

pub returns-clause-value : goal.returns-clause-value
returns-clause-value c =
    let a = c.in-Some-part_at.alternative.now in
    branch_found c.args.name.now c.args.given (c.args.root.now ++ added c.args.ext.now) c.in-Some.index a c.in-Some.ensures.index c.in-Some-part_at.ensures
    ∙ ap (option_map (alternative c.in-Some.index)) (ap (λ t. datum_given t c.args.given) (shape_of_branch a) ∙ c.in_ok-value.ensures.value)
    ∙ ap (λ d. Some d) (sym (datum_of-Choice c.in_ok-tag.tag c.in_ok-new.field-0 ∙ ap₂ (λ t v. alternative t (datum_of v)) c.in_ok-tag.ensures.same c.in_ok-new.ensures.ok))
