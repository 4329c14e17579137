-- What the session inside answers is what the session under the constraint does.
use Rattle.std.proofs.Common.{refl, sym, ap, ◌∙◌}
use Rattle.tulvorn_c.specs.Faults.{broken_after}
use Rattle.tulvorn_c.specs.Held.{constrained_of}
use Rattle.tulvorn_c.proofs.Feeding.{more_turns, broken_turns}
use Rattle.tulvorn_c.proofs.pieces.feed_by.Goals as goal

pub returns-then-not-admits : goal.returns-then-not-admits
returns-then-not-admits g c =
    let a = c.args in
    let h = a.held.now in
    let broke = sym c.admits.ensures ∙ c.if-not-admits.true in
    let told = c.broken-then-not-admits.ensures ∙ ap (broken_after a.unit) c.saturating_add-held.ensures in
    rw (c.if-held.false, c.saturating_add-held.ensures)
    (broken_turns g.R.Rules.ruling (λ q. g.R.Rules.took q.inner) h.session c.feed.new.self a.unit (constrained_of a.ty.now) a.piece.now
    a.value.now.kept a.value.now.kept a.used.now a.used.now c.broken-then-not-admits.result h.taken c.in-Ok-Done.read c.in-Ok-Done.taken
    (rw c.in-Ok-Done.field-0-is at c.in-Ok-Done.ensures.answered) broke told refl refl)

pub returns-in-Ok-More : goal.returns-in-Ok-More
returns-in-Ok-More g c =
    let a = c.args in
    let h = a.held.now in
    rw (c.if-held.false, c.saturating_add-held-in-Ok-More.ensures)
    (more_turns g.R.Rules.ruling (λ q. g.R.Rules.took q.inner) h.session c.feed.new.self a.unit (constrained_of a.ty.now) a.piece.now
    a.value.now.kept a.value.now.kept a.used.now a.used.now c.plain-in-Ok-More.result h.taken
    (rw c.in-Ok-More.field-0-is at c.in-Ok-More.ensures.answered) c.plain-in-Ok-More.ensures refl refl)
