use Rattle.std.proofs.Common.{rules, ◌≡◌, [], None, refl, subst}
use Rattle.std.specs.Prelude.{string_bytes}
use Rattle.std.proofs.lemmas.Result.{err_from_is_err_and}
use Rattle.asn_module.specs.Accepted.{type_in}
use Rattle.asn_module.specs.ModuleView.{types_view}
use Rattle.asn_module.specs.Printing.{printed}
use Rattle.asn_convert.specs.Answers.{rulings}
use Rattle.asn_jobs.specs.Lines.{lines_of}
use Rattle.asn_convert.specs.Text.{TellsBegun, IsFront, ended, no_type}
use Rattle.asn_convert.proofs.Told.{stops_memory, stops_so, begun_no_type, begun_printed}
use Rattle.asn_convert.proofs.running.answer_module.Goals as goal

pub returns-in_err-line-in-None-clause-fault : goal.returns-in_err-line-in-None-clause-fault
returns-in_err-line-in-None-clause-fault g c =
    let p = err_from_is_err_and c.from_residual-in_err-line-in-None.result c.from_residual-in_err-line-in-None.ensures.1 in
    let w = rulings g.A.Rules.ruling g.B.Rules.ruling g.A.OtherVersions.loose in
    let m = types_view c.args.accepted.now in
    let lines = lines_of c.args.lines.now in
    let none : type_in m.types (string_bytes c.in-Lines.type_name) ≡ None = search rules in
    rw p.1 (stops_memory _ (λ out. TellsBegun w c.args.job.now m lines out) _ p.2
    (begun_no_type w c.args.job.now m lines [] c.in-Lines.order c.in-Lines.type_name c.in-Lines.rules c.in-Lines.is none (ended (no_type (string_bytes c.in-Lines.type_name)), refl)))

pub returns-in_err-text-in-Module-clause-fault : goal.returns-in_err-text-in-Module-clause-fault
returns-in_err-text-in-Module-clause-fault g c =
    let p = err_from_is_err_and c.from_residual.result c.from_residual.ensures.1 in
    let w = rulings g.A.Rules.ruling g.B.Rules.ruling g.A.OtherVersions.loose in
    let m = types_view c.args.accepted.now in
    let lines = lines_of c.args.lines.now in
    rw p.1 (stops_memory _ (λ out. TellsBegun w c.args.job.now m lines out) _ p.2
    (begun_printed w c.args.job.now m lines [] c.in-Module.is (printed m, refl)))

pub returns-in_err-put-in-Module-clause-fault : goal.returns-in_err-put-in-Module-clause-fault
returns-in_err-put-in-Module-clause-fault g c =
    let p = err_from_is_err_and c.from_residual-in_err-put-in-Module.result c.from_residual-in_err-put-in-Module.ensures.1 in
    let w = rulings g.A.Rules.ruling g.B.Rules.ruling g.A.OtherVersions.loose in
    let m = types_view c.args.accepted.now in
    let lines = lines_of c.args.lines.now in
    let value : c.as_str.result.now ≡ printed m = search rules in
    rw (p.1, p.2) (stops_so _ (λ out. IsFront out c.as_str.result.now) (λ out. TellsBegun w c.args.job.now m lines out) _ _
    (λ out front. begun_printed w c.args.job.now m lines out c.in-Module.is (subst (λ x. IsFront out x) value front))
    c.in_err-put-in-Module.ensures.err)
