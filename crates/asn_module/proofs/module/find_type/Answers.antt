use Rattle.std.proofs.Common.{◌∙◌, ap}
use Rattle.asn_module.proofs.Lookups.{type_looked, shape_if}
use Rattle.asn_module.proofs.module.find_type.Goals as goal

pub returns-in-Some : goal.returns-in-Some
returns-in-Some c = type_looked c.args.types.now c.args.name.now c.requires.built ∙ ap shape_if c.in-Some.ensures

pub returns-in-None : goal.returns-in-None
returns-in-None c = type_looked c.args.types.now c.args.name.now c.requires.built ∙ ap shape_if c.in-None.ensures
