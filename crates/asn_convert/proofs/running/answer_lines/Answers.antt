use Rattle.std.proofs.Common.{rules, ◌≡◌, ℕ, List, []}
use Rattle.std.proofs.lemmas.Result.{err_from_is_err_and}
use Rattle.asn_values.specs.View.{shape_of}
use Rattle.asn_rules.specs.Faults.{state_of}
use Rattle.asn_convert.specs.Answers.{rulings}
use Rattle.asn_jobs.specs.Lines.{lines_of, IsFirstLine}
use Rattle.asn_convert.specs.Text.{terms, HasAnswer}
use Rattle.asn_convert.proofs.Told.{none_yet, one_more, all_told, stopped}
use Rattle.asn_convert.proofs.running.answer_lines.Goals as goal

pub loop-line-init : goal.loop-line-init
loop-line-init g c = none_yet _ _ _

pub returns-in_err-is_good-clause-begun : goal.returns-in_err-is_good-clause-begun
returns-in_err-is_good-clause-begun g c =
    let w = terms (rulings g.A.Rules.ruling g.B.Rules.ruling g.A.OtherVersions.loose) c.args.rules c.args.order (shape_of c.args.planned.now) in
    let each : (left : List ℕ) → HasAnswer w left = rw c.get.ensures at (c.lines_have_answers.ensures c.args.order c.args.rules) in
    let first : IsFirstLine c.loop-line.rest.now c.in-Some.line.now c.in-Some.later.now = search rules in
    let p = err_from_is_err_and c.from_residual.result c.from_residual.ensures.1 in
    rw (p.1, p.2) (stopped w each (lines_of c.args.lines.now) c.loop-line.rest.now c.in-Some.line.now c.in-Some.later.now c.loop-line.all_good _ (state_of g.W.Write.contents c.loop-line.output) _ _ first c.loop-line.invariant c.in_err-is_good.ensures.begun)

pub loop-line-preserved : goal.loop-line-preserved
loop-line-preserved g c =
    let w = terms (rulings g.A.Rules.ruling g.B.Rules.ruling g.A.OtherVersions.loose) c.args.rules c.args.order (shape_of c.args.planned.now) in
    let first : IsFirstLine c.loop-line.rest.now c.in-Some.line.now c.in-Some.later.now = search rules in
    one_more w (lines_of c.args.lines.now) c.loop-line.rest.now c.in-Some.line.now c.in-Some.later.now c.loop-line.all_good c.in_ok-is_good.is_good _ (state_of g.W.Write.contents c.loop-line.output) _ first c.loop-line.invariant c.in_ok-is_good.ensures.told

pub returns-clause-told : goal.returns-clause-told
returns-clause-told g c =
    let w = terms (rulings g.A.Rules.ruling g.B.Rules.ruling g.A.OtherVersions.loose) c.args.rules c.args.order (shape_of c.args.planned.now) in
    let none : c.loop-line.rest.now ≡ [] = search rules in
    all_told w (lines_of c.args.lines.now) c.loop-line.rest.now c.loop-line.all_good _ (state_of g.W.Write.contents c.loop-line.output) none c.loop-line.invariant
