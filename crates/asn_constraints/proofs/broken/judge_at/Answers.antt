use Rattle.std.proofs.Common.{sym, subst, reverse}
use Rattle.asn_values.specs.View.{datum_of}
use Rattle.asn_constraints.specs.View.{constraint_of}
use Rattle.asn_constraints.specs.Finding.{Finds}
use Rattle.asn_constraints.proofs.Breaking.{broken_not_met}
use Rattle.asn_constraints.proofs.broken.judge_at.Goals as goal

pub returns-in-Some-clause-exactly : goal.returns-in-Some-clause-exactly
returns-in-Some-clause-exactly c =
    let a = constraint_of c.args.constraint.now in
    let d = datum_of c.args.value.now in
    let o = c.in-Some.broken in
    sym (broken_not_met a d (reverse o.path.items) o.reason (subst (λ x. Finds a d x) c.in-Some.is c.in_ok-first_broken.ensures))
