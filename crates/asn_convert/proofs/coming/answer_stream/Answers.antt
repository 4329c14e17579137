use Rattle.std.proofs.Common.{rules, ◌≡◌, ◌∙◌, [], true, refl, sym, subst, take}
use Rattle.std.proofs.lemmas.Result.{err_from_is_err_and}
use Rattle.asn_values.specs.View.{shape_of}
use Rattle.asn_rules.specs.Faults.{state_of}
use Rattle.asn_convert.specs.Answers.{rulings}
use Rattle.asn_jobs.specs.Lines.{lines_of}
use Rattle.asn_convert.specs.Text.{terms, Told, IsBegun, Writes, Stops}
use Rattle.asn_jobs.specs.declared.job.RunFault.TheVariants as fault
use Rattle.asn_convert.proofs.Streaming.{HasCome, none_come, reading_failed, last_stopped, all_come, piece_stopped, piece_taken, out_of_memory}
use Rattle.asn_convert.proofs.Told.{flush_rose}
use Rattle.asn_convert.proofs.coming.answer_stream.Goals as goal

pub loop-init : goal.loop-init
loop-init g c =
    let w = terms (rulings g.A.Rules.ruling g.B.Rules.ruling g.A.OtherVersions.loose) c.args.rules c.args.order (shape_of c.args.ty.now) in
    subst (λ xs. HasCome w (state_of g.R.Read.remaining c.args.input.now) (state_of g.R.Read.remaining c.args.input.now) xs true (state_of g.W.Write.contents c.args.output.now) (state_of g.W.Write.contents c.args.output.now)) (sym c.new-held.ensures.items) (none_come w (state_of g.R.Read.remaining c.args.input.now) (state_of g.W.Write.contents c.args.output.now))

pub returns-in-Err-clause-begun : goal.returns-in-Err-clause-begun
returns-in-Err-clause-begun g c =
    let w = terms (rulings g.A.Rules.ruling g.B.Rules.ruling g.A.OtherVersions.loose) c.args.rules c.args.order (shape_of c.args.ty.now) in
    let each = c.lines_have_answers.ensures c.args.order c.args.rules in
    reading_failed w each (state_of g.R.Read.remaining c.args.input.now) (state_of g.R.Read.remaining c.loop.input) (state_of g.R.Read.remaining c.read.new.self) c.loop.held.items c.loop.all_good (state_of g.W.Write.contents c.args.output.now) (state_of g.W.Write.contents c.loop.output) c.loop.invariant c.in-Err.ensures.bytes (flush_rose _ _ c.in-Err.ensures.faults)

pub returns-in_err-planned-clause-begun : goal.returns-in_err-planned-clause-begun
returns-in_err-planned-clause-begun g c =
    let w = terms (rulings g.A.Rules.ruling g.B.Rules.ruling g.A.OtherVersions.loose) c.args.rules c.args.order (shape_of c.args.ty.now) in
    let each = c.lines_have_answers.ensures c.args.order c.args.rules in
    let from = state_of g.R.Read.remaining c.args.input.now in
    let old = state_of g.W.Write.contents c.args.output.now in
    let p = err_from_is_err_and c.from_residual.result c.from_residual.ensures.1 in
    rw p.1 (out_of_memory w each from from [] true old old _ (p.2 ∙ c.in_err-planned.ensures.fault) (none_come w from old))

pub returns-in_err-is_good-clause-begun : goal.returns-in_err-is_good-clause-begun
returns-in_err-is_good-clause-begun g c =
    let w = terms (rulings g.A.Rules.ruling g.B.Rules.ruling g.A.OtherVersions.loose) c.args.rules c.args.order (shape_of c.args.ty.now) in
    let each = c.lines_have_answers.ensures c.args.order c.args.rules in
    let new = state_of g.W.Write.contents c.answer_held.new.output in
    let p = err_from_is_err_and c.from_residual-in_err-is_good.result c.from_residual-in_err-is_good.ensures.1 in
    let value : c.as_slice-held.result.now ≡ c.loop.held.items = search rules in
    rw (p.1, p.2) (last_stopped w each (state_of g.R.Read.remaining c.args.input.now) (state_of g.R.Read.remaining c.loop.input) (state_of g.R.Read.remaining c.read.new.self) c.loop.held.items (take c.in-Ok.count c.read.new.buf) c.loop.all_good (state_of g.W.Write.contents c.args.output.now) (state_of g.W.Write.contents c.loop.output) new _
    c.loop.invariant c.in-Ok.ensures.bytes.0 c.in-Ok.ensures.faults (rw c.if-count-eq0.true refl)
    (subst (λ xs. Stops c.in_err-is_good.field-0.0 (λ out. IsBegun w (lines_of xs) out) (state_of g.W.Write.contents c.loop.output) new) value (rw c.in_ok-planned.ensures.planned at c.in_err-is_good.ensures.begun)))

pub returns-then-count-eq0-clause-told : goal.returns-then-count-eq0-clause-told
returns-then-count-eq0-clause-told g c =
    let w = terms (rulings g.A.Rules.ruling g.B.Rules.ruling g.A.OtherVersions.loose) c.args.rules c.args.order (shape_of c.args.ty.now) in
    let new = state_of g.W.Write.contents c.answer_held.new.output in
    let value : c.as_slice-held.result.now ≡ c.loop.held.items = search rules in
    all_come w (state_of g.R.Read.remaining c.args.input.now) (state_of g.R.Read.remaining c.loop.input) (state_of g.R.Read.remaining c.read.new.self) c.loop.held.items (take c.in-Ok.count c.read.new.buf) c.loop.all_good c.in_ok-is_good.is_good (state_of g.W.Write.contents c.args.output.now) (state_of g.W.Write.contents c.loop.output) new
    c.loop.invariant c.in-Ok.ensures.bytes.0 (rw c.if-count-eq0.true refl) (c.in-Ok.ensures.bytes.1 c.if-count-eq0.true (search rules))
    (subst (λ xs. Writes (λ out. Told w (lines_of xs) out c.in_ok-is_good.is_good) (state_of g.W.Write.contents c.loop.output) new) value (rw c.in_ok-planned.ensures.planned at c.in_ok-is_good.ensures.told))

pub returns-in_err-is_good-2-clause-begun : goal.returns-in_err-is_good-2-clause-begun
returns-in_err-is_good-2-clause-begun g c =
    let w = terms (rulings g.A.Rules.ruling g.B.Rules.ruling g.A.OtherVersions.loose) c.args.rules c.args.order (shape_of c.args.ty.now) in
    let each = c.lines_have_answers.ensures c.args.order c.args.rules in
    let p = err_from_is_err_and c.from_residual-in_err-is_good-2.result c.from_residual-in_err-is_good-2.ensures.1 in
    let t = rw c.in_ok-planned.ensures.planned at c.in_err-is_good-2.ensures.begun in
    rw (p.1, p.2) (piece_stopped w each (state_of g.R.Read.remaining c.args.input.now) (state_of g.R.Read.remaining c.loop.input) (state_of g.R.Read.remaining c.read.new.self) c.loop.held.items (take c.in-Ok.count c.read.new.buf) t.0 t.1 c.loop.all_good (state_of g.W.Write.contents c.args.output.now) (state_of g.W.Write.contents c.loop.output) (state_of g.W.Write.contents c.answer_piece.new.output) _
    c.loop.invariant c.in-Ok.ensures.bytes.0 c.in-Ok.ensures.faults t.2 t.3 t.4)

pub loop-preserved : goal.loop-preserved
loop-preserved g c =
    let w = terms (rulings g.A.Rules.ruling g.B.Rules.ruling g.A.OtherVersions.loose) c.args.rules c.args.order (shape_of c.args.ty.now) in
    let t = rw c.in_ok-planned.ensures.planned at c.in_ok-is_good-2.ensures.told in
    piece_taken w (state_of g.R.Read.remaining c.args.input.now) (state_of g.R.Read.remaining c.loop.input) (state_of g.R.Read.remaining c.read.new.self) c.loop.held.items (take c.in-Ok.count c.read.new.buf) t.0 c.answer_piece.new.held.items c.loop.all_good c.in_ok-is_good-2.is_good (state_of g.W.Write.contents c.args.output.now) (state_of g.W.Write.contents c.loop.output) (state_of g.W.Write.contents c.answer_piece.new.output)
    c.loop.invariant c.in-Ok.ensures.bytes.0 c.in-Ok.ensures.faults t.1 t.2 t.3

pub returns-clause-begun : goal.returns-clause-begun
returns-clause-begun g c =
    let w = terms (rulings g.A.Rules.ruling g.B.Rules.ruling g.A.OtherVersions.loose) c.args.rules c.args.order (shape_of c.args.ty.now) in
    let each = c.lines_have_answers.ensures c.args.order c.args.rules in
    out_of_memory w each (state_of g.R.Read.remaining c.args.input.now) (state_of g.R.Read.remaining c.loop.input) c.loop.held.items c.loop.all_good (state_of g.W.Write.contents c.args.output.now) (state_of g.W.Write.contents c.loop.output) fault.Memory refl c.loop.invariant
