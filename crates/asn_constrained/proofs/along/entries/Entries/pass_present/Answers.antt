use Rattle.asn_constrained.proofs.Passing.{present_passed}
use Rattle.asn_constrained.proofs.along.entries.Entries.pass_present.Goals as goal

pub returns : goal.returns
returns c = λ t s m es d h met.
    present_passed s m _ c.args.self.now _ c.in-Some.component.now es d (rw c.in-Some.is at c.split_first.ensures.cases).0 c.in_default-presence.not-Absent c.due_of_first.ensures h met
