use Rattle.std.proofs.Common.{Ok, Some, None}
use Rattle.asn_values.specs.View.{datum_of}
use Rattle.asn_rules.specs.Sessions.{Feeds}
use Rattle.asn_rules.specs.declared.session.Step.TheVariants as step
use Rattle.asn_constraints.specs.View.{constraint_of}
use Rattle.asn_constrained.specs.Under.{Found}
use Rattle.asn_constrained.proofs.Feeding.{met_turned, broken_turned}
use Rattle.asn_constrained.proofs.session.ConstrainedSession.feed.Goals as goal

pub returns-in-Ok-None : goal.returns-in-Ok-None
returns-in-Ok-None g c = λ t k past h.
    let r = g.R.Rules.ruling in
    let took = g.R.Rules.took in
    let old = c.args.self.now.inner in
    let new = c.feed.new.session in
    let held = constraint_of c.args.self.now.constraint.value in
    let piece = c.args.piece.now in
    let v = c.in-Ok-Done.value in
    let used = c.in-Ok-Done.used in
    let fed : Feeds r took old new piece (Ok (step.Done v used)) = rw (c.in-Ok-Done.is, c.in-Ok-Done.field-0-is) at c.feed.ensures.answered in
    let found : Found held (datum_of v) None = rw (c.in-Ok-None.is, c.in-Ok-None.field-0-is, c.deref.ensures) at c.broken_in.ensures in
    let w = met_turned r took old new held c.args.self.now.end piece v used fed found t k past h in
    record { answered = w.answered; taken = w.taken }

pub returns-in-Ok-Some : goal.returns-in-Ok-Some
returns-in-Ok-Some g c = λ t k past h.
    let r = g.R.Rules.ruling in
    let took = g.R.Rules.took in
    let old = c.args.self.now.inner in
    let new = c.feed.new.session in
    let held = constraint_of c.args.self.now.constraint.value in
    let piece = c.args.piece.now in
    let v = c.in-Ok-Done.value in
    let used = c.in-Ok-Done.used in
    let b = c.in-Ok-Some.broken in
    let fed : Feeds r took old new piece (Ok (step.Done v used)) = rw (c.in-Ok-Done.is, c.in-Ok-Done.field-0-is) at c.feed.ensures.answered in
    let found : Found held (datum_of v) (Some b) = rw (c.in-Ok-Some.is, c.in-Ok-Some.field-0-is, c.deref.ensures) at c.broken_in.ensures in
    let w = broken_turned r took old new held c.args.self.now.end piece v used b fed found t k past h in
    record { answered = w.answered; taken = w.taken }
