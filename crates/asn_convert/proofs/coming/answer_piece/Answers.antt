use Rattle.std.proofs.Common.{rules, ◌≡◌, ◌++◌, [], sym, ap, ◌∙◌, subst}
use Rattle.std.proofs.lemmas.Result.{err_from_is_err_and}
use Rattle.asn_values.specs.View.{shape_of}
use Rattle.asn_rules.specs.Faults.{state_of}
use Rattle.asn_convert.specs.Answers.{rulings}
use Rattle.asn_convert.specs.Coming.{AreWholeLines}
use Rattle.asn_jobs.specs.Lines.{lines_of}
use Rattle.asn_convert.specs.Text.{terms, Told, IsBegun, Writes, Stops}
use Rattle.asn_convert.proofs.Streaming.{cut_held, held_whole, stops_at_memory}
use Rattle.asn_convert.proofs.coming.answer_piece.Goals as goal

pub returns-in_err-is_good-clause-begun : goal.returns-in_err-is_good-clause-begun
returns-in_err-is_good-clause-begun g c =
    let w = terms (rulings g.A.Rules.ruling g.B.Rules.ruling g.A.OtherVersions.loose) c.args.rules c.args.order (shape_of c.args.planned.now) in
    let ended = c.cut_last_line.result.0.now in
    let begun = c.cut_last_line.result.1.now in
    let front = c.extend_from_slice-2.new.self.items in
    let grown : front ≡ c.args.held.now.items ++ ended = c.in_ok-extend_from_slice-2.ensures.items in
    let some : ended ≡ [] → ⊥ = search rules in
    let whole : AreWholeLines front = subst AreWholeLines (sym grown) (held_whole c.args.held.now.items ended some c.cut_last_line.ensures.ended) in
    let cut : c.args.held.now.items ++ c.args.piece.now ≡ front ++ begun = cut_held c.args.held.now.items c.args.piece.now ended begun front c.cut_last_line.ensures.parts grown in
    let value : c.as_slice.result.now ≡ front = search rules in
    let old = state_of g.W.Write.contents c.args.output.now in
    let new = state_of g.W.Write.contents c.answer_held.new.output in
    let p = err_from_is_err_and c.from_residual-in_err-is_good.result c.from_residual-in_err-is_good.ensures.1 in
    rw (p.1, p.2) (front, begun, whole, cut, subst (λ xs. Stops c.in_err-is_good.field-0.0 (λ out. IsBegun w (lines_of xs) out) old new) value c.in_err-is_good.ensures.begun)

pub returns-in_err-extend_from_slice-3-clause-begun : goal.returns-in_err-extend_from_slice-3-clause-begun
returns-in_err-extend_from_slice-3-clause-begun g c =
    let w = terms (rulings g.A.Rules.ruling g.B.Rules.ruling g.A.OtherVersions.loose) c.args.rules c.args.order (shape_of c.args.planned.now) in
    let ended = c.cut_last_line.result.0.now in
    let begun = c.cut_last_line.result.1.now in
    let front = c.extend_from_slice-2.new.self.items in
    let grown : front ≡ c.args.held.now.items ++ ended = c.in_ok-extend_from_slice-2.ensures.items in
    let some : ended ≡ [] → ⊥ = search rules in
    let whole : AreWholeLines front = subst AreWholeLines (sym grown) (held_whole c.args.held.now.items ended some c.cut_last_line.ensures.ended) in
    let cut : c.args.held.now.items ++ c.args.piece.now ≡ front ++ begun = cut_held c.args.held.now.items c.args.piece.now ended begun front c.cut_last_line.ensures.parts grown in
    let value : c.as_slice.result.now ≡ front = search rules in
    let old = state_of g.W.Write.contents c.args.output.now in
    let new = state_of g.W.Write.contents c.answer_held.new.output in
    let p = err_from_is_err_and c.from_residual-in_err-extend_from_slice-3.result c.from_residual-in_err-extend_from_slice-3.ensures.1 in
    let told = subst (λ xs. Writes (λ out. Told w (lines_of xs) out c.in_ok-is_good.is_good) old new) value c.in_ok-is_good.ensures.told in
    rw p.1 (front, begun, whole, cut, stops_at_memory w (lines_of front) c.in_ok-is_good.is_good old new _ p.2 told)

pub returns-clause-told : goal.returns-clause-told
returns-clause-told g c =
    let w = terms (rulings g.A.Rules.ruling g.B.Rules.ruling g.A.OtherVersions.loose) c.args.rules c.args.order (shape_of c.args.planned.now) in
    let ended = c.cut_last_line.result.0.now in
    let begun = c.cut_last_line.result.1.now in
    let front = c.extend_from_slice-2.new.self.items in
    let grown : front ≡ c.args.held.now.items ++ ended = c.in_ok-extend_from_slice-2.ensures.items in
    let some : ended ≡ [] → ⊥ = search rules in
    let whole : AreWholeLines front = subst AreWholeLines (sym grown) (held_whole c.args.held.now.items ended some c.cut_last_line.ensures.ended) in
    let cut : c.args.held.now.items ++ c.args.piece.now ≡ front ++ begun = cut_held c.args.held.now.items c.args.piece.now ended begun front c.cut_last_line.ensures.parts grown in
    let value : c.as_slice.result.now ≡ front = search rules in
    let old = state_of g.W.Write.contents c.args.output.now in
    let new = state_of g.W.Write.contents c.answer_held.new.output in
    let kept : c.extend_from_slice-3.new.self.items ≡ begun = search rules in
    let told = subst (λ xs. Writes (λ out. Told w (lines_of xs) out c.in_ok-is_good.is_good) old new) value c.in_ok-is_good.ensures.told in
    (front, whole, cut ∙ ap (λ xs. front ++ xs) (sym kept), told)
