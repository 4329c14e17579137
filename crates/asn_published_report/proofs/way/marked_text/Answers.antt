use Rattle.std.proofs.Common.{◌≡◌, ◌++◌, string_bytes, subst, sym}
use Rattle.asn_published_report.specs.Telling.{lines_if}
use Rattle.asn_published_report.proofs.Marks.{type_passed}
use Rattle.asn_published_report.proofs.way.marked_text.Goals as goal

pub loop-index-preserved : goal.loop-index-preserved
loop-index-preserved c =
    let one = c.index-report-index.result in
    let more = subst (λ mark. string_bytes c.push_marked.new.text ≡ string_bytes c.loop-index.text ++ lines_if c.args.files.now mark one) c.is_marked-is_marked.ensures c.in_ok-push_marked.ensures in
    type_passed c.args.files.now c.args.marks.now c.args.report.now c.loop-index.index one _ _ c.loop-index-test.true (sym c.index-report-index.is) c.loop-index.invariant more
