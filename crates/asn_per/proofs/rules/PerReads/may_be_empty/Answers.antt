use Rattle.asn_values.specs.View.{shape_of}
use Rattle.asn_per.proofs.Encodings.SomeOctet.{not_empty}
use Rattle.asn_per.proofs.rules.PerReads.may_be_empty.Goals as goal

pub returns : goal.returns
returns c = not_empty (shape_of c.args._ty.now)
