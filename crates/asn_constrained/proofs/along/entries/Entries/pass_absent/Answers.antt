use Rattle.std.proofs.Common.{refl}
use Rattle.asn_constrained.proofs.Passing.{absent_passed}
use Rattle.asn_constrained.proofs.along.entries.Entries.pass_absent.Goals as goal

pub returns : goal.returns
returns c = λ t s es h.
    absent_passed s _ _ c.args.self.now _ c.in-Some.component.now es (rw c.in-Some.is at c.split_first.ensures.cases).0 refl c.in_default-presence.not-Present c.due_of_first.ensures h
