use Rattle.std.proofs.Common.{◌≡◌, ◌∙◌, ◌<◌, length, take, ap, arith}
use Rattle.std.proofs.Math.Numerals.{add-one}
use Rattle.asn_notation.specs.Tree.{assignment_view, assignments_view}
use Rattle.asn_module.specs.Known.{look, AreDone}
use Rattle.asn_module.proofs.Tables.{same_length, attempt_sound, attempt_fewer, view_at, length_view, done_next}
use Rattle.asn_module.proofs.Lookups.{finds_built}
use Rattle.asn_module.proofs.table.build_next.Goals as goal

pub attempt-requires-clause-finds : goal.attempt-requires-clause-finds
attempt-requires-clause-finds c =
    rw c.loop-index.invariant.same (finds_built c.args.indices.now (assignments_view c.args.assignments.now) c.args.names.now.items c.requires.sound c.requires.finds)

pub attempt-requires-clause-inside : goal.attempt-requires-clause-inside
attempt-requires-clause-inside c =
    let all = assignments_view c.args.assignments.now in
    let lengths : length c.args.names.now.items ≡ length c.args.assignments.now = same_length all all c.args.names.now.items c.requires.sound ∙ length_view c.args.assignments.now in
    let less : c.loop-index.index < length c.args.names.now.items = omega (arith, lengths, c.loop-index-test.true) in
    omega (arith, less, ap length c.loop-index.invariant.same, c.loop-index.names.ok)

pub returns-then-branch-clause-sound : goal.returns-then-branch-clause-sound
returns-then-branch-clause-sound c =
    let l = c.loop-index in
    let all = assignments_view c.args.assignments.now in
    let lengths : length c.args.names.now.items ≡ length c.args.assignments.now = same_length all all c.args.names.now.items c.requires.sound ∙ length_view c.args.assignments.now in
    let built = rw (c.if-branch.true, l.invariant.same) at c.in_ok-attempt.ensures.attempted in
    attempt_sound all c.args.names.now.items c.attempt.new.names.items l.index (assignment_view c.index-assignments-index.result) c.requires.sound (omega (arith, lengths, c.loop-index-test.true))
    (view_at c.args.assignments.now l.index c.index-assignments-index.result c.loop-index-test.true c.index-assignments-index.is) built

pub returns-then-branch-clause-fewer : goal.returns-then-branch-clause-fewer
returns-then-branch-clause-fewer c = λ _.
    let l = c.loop-index in
    let all = assignments_view c.args.assignments.now in
    let lengths : length c.args.names.now.items ≡ length c.args.assignments.now = same_length all all c.args.names.now.items c.requires.sound ∙ length_view c.args.assignments.now in
    let built = rw (c.if-branch.true, l.invariant.same) at c.in_ok-attempt.ensures.attempted in
    attempt_fewer (assignment_view c.index-assignments-index.result).tree c.args.names.now.items c.attempt.new.names.items l.index (omega (arith, lengths, c.loop-index-test.true)) built

pub loop-index-preserved : goal.loop-index-preserved
loop-index-preserved c =
    let l = c.loop-index in
    let all = assignments_view c.args.assignments.now in
    let lengths = same_length all all c.args.names.now.items c.requires.sound in
    let also = length_view c.args.assignments.now in
    let tried = rw c.if-branch.false at c.in_ok-attempt.ensures.attempted in
    let less : l.index < length all = omega (arith, also, c.loop-index-test.true) in
    let old : AreDone (look c.args.names.now.items) (take l.index all) c.args.names.now.items = rw l.invariant.same at l.invariant.done in
    let same = tried.0 ∙ l.invariant.same in
    record {
      same = same;
      done = rw (same, add-one) (done_next (look c.args.names.now.items) all c.args.names.now.items l.index (assignment_view c.index-assignments-index.result) lengths less
          (view_at c.args.assignments.now l.index c.index-assignments-index.result c.loop-index-test.true c.index-assignments-index.is) old (rw l.invariant.same at tried.1));
    }
