use Rattle.asn_notation.proofs.Exact.{one_module}
use Rattle.asn_notation.proofs.laws.one_module.Goals as goal

pub returns : goal.returns
returns c = one_module
