use Rattle.asn_notation.proofs.Exact.{is_found, is_only}
use Rattle.asn_notation.proofs.modules.read_notation.Goals as goal

pub returns-clause-found : goal.returns-clause-found
returns-clause-found c = is_found c.args.levels c.args.text.now c.module_or_fault.result c.module_or_fault.ensures

pub returns-clause-only : goal.returns-clause-only
returns-clause-only c = is_only c.args.levels c.args.text.now c.module_or_fault.result c.module_or_fault.ensures
