use Rattle.std.proofs.Common.{◌≡◌, ◌∙◌, length, arith}
use Rattle.asn_notation.specs.Tree.{assignment_view, assignments_view}
use Rattle.asn_module.proofs.Tables.{same_length, attempted_sound, view_at, length_view}
use Rattle.asn_module.proofs.Lookups.{finds_built}
use Rattle.asn_module.proofs.table.build_at.Goals as goal

pub attempt-requires-clause-finds : goal.attempt-requires-clause-finds
attempt-requires-clause-finds c = finds_built c.args.indices.now (assignments_view c.args.assignments.now) c.args.names.now.items c.requires.sound c.requires.finds

pub attempt-requires-clause-inside : goal.attempt-requires-clause-inside
attempt-requires-clause-inside c =
    let all = assignments_view c.args.assignments.now in
    let lengths : length c.args.names.now.items ≡ length c.args.assignments.now = same_length all all c.args.names.now.items c.requires.sound ∙ length_view c.args.assignments.now in
    omega (arith, lengths, c.if-index-assignments.false, c.args.names.now.ok)

pub returns-clause-sound : goal.returns-clause-sound
returns-clause-sound c =
    let all = assignments_view c.args.assignments.now in
    let lengths : length c.args.names.now.items ≡ length c.args.assignments.now = same_length all all c.args.names.now.items c.requires.sound ∙ length_view c.args.assignments.now in
    attempted_sound c.in_ok-built.built all c.args.names.now.items c.attempt.new.names.items c.args.index (assignment_view c.index-assignments-index.result) c.requires.sound
    (omega (arith, lengths, c.if-index-assignments.false)) (view_at c.args.assignments.now c.args.index c.index-assignments-index.result (omega (arith, c.if-index-assignments.false)) c.index-assignments-index.is) (rw (← c.index-assignments-index.is) at c.in_ok-built.ensures.attempted)
