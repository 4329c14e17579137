use Rattle.std.proofs.Common.{◌∙◌, ap, sym}
use Rattle.asn_module.specs.Lookup.{names_in}
use Rattle.asn_module.proofs.Lookups.{names_typed}
use Rattle.asn_module.proofs.module.Module.type_names.Goals as goal

pub returns : goal.returns
returns c = ap names_in c.as_slice.ensures.value ∙ sym (names_typed c.args.self.now.types.items c.args.self.now.built)
