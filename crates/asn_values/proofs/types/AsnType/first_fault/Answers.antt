use Rattle.asn_values.specs.View.{shape_of}
use Rattle.asn_values.proofs.Walks.{of_profile}
use Rattle.asn_values.proofs.types.AsnType.first_fault.Goals as goal

pub returns-in-Ok-clause-found : goal.returns-in-Ok-clause-found
returns-in-Ok-clause-found c = of_profile c.in-Ok.field-0 (shape_of c.args.self.now) c.in-Ok.ensures.sound
