use Rattle.std.proofs.Common.{ap, reverse}
use Rattle.asn_values.specs.View.{datum_of}
use Rattle.asn_constraints.specs.View.{constraint_of}
use Rattle.asn_constraints.specs.Broken.{without_parts}
use Rattle.asn_constraints.proofs.broken.without_parts.Goals as goal

pub returns : goal.returns
returns c = rw (ap reverse c.here.ensures.path, c.here.ensures.reason) (without_parts (constraint_of c.args.constraint.now) (datum_of c.args.value.now) c.requires)
