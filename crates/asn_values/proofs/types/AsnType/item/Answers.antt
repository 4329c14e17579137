use Rattle.asn_values.proofs.LookUps.{item_found}
use Rattle.asn_values.proofs.types.AsnType.item.Goals as goal

pub returns-in-Enum : goal.returns-in-Enum
returns-in-Enum c =
    item_found (λ r. r.now) c.first_of.result c.args.name.now c.args.self.now c.in-Enum.root c.in-Enum.ext
    c.deref.result.now c.in-Enum.is c.deref.ensures.value c.first_of.ensures
