use Rattle.asn_notation.specs.Tree.{tree_view}
use Rattle.asn_module.specs.Known.{look}
use Rattle.asn_module.proofs.Counts.{stuck_by_count}
use Rattle.asn_module.proofs.Faults.{known_as}
use Rattle.asn_module.proofs.table.build_known.Goals as goal

pub returns-in-Ok-clause-known : goal.returns-in-Ok-clause-known
returns-in-Ok-clause-known c = known_as (look c.args.names.now) (tree_view c.args.ty.now) c.in-Ok.built c.of_profile.result c.in-Ok.ensures c.of_profile.ensures.known

pub returns-then-count-gt-MAX_TYPES-clause-known : goal.returns-then-count-gt-MAX_TYPES-clause-known
returns-then-count-gt-MAX_TYPES-clause-known c = stuck_by_count (look c.args.names.now) (tree_view c.args.ty.now) c.count.result c.count.ensures c.if-count-gt-MAX_TYPES.true
