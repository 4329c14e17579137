use Rattle.std.proofs.Common.{◌∙◌, sym, ap, reverse}
use Rattle.asn_values.specs.View.{datum_of}
use Rattle.asn_constraints.specs.View.{constraint_of}
use Rattle.asn_constraints.specs.Broken.{itself}
use Rattle.asn_constraints.proofs.broken.itself.Goals as goal

pub returns-else-judge : goal.returns-else-judge
returns-else-judge c =
    rw (ap reverse c.here.ensures.path, c.here.ensures.reason)
    (itself (constraint_of c.args.constraint.now) (datum_of c.args.value.now) c.args.reason c.requires (sym c.judge.ensures ∙ c.if-judge.false))
