use Rattle.asn_constraints.proofs.Places.{barred_seen, no_alternative_seen}
use Rattle.asn_constraints.proofs.broken.is_barred.Goals as goal

pub returns-then-alternatives-index-clause-barred : goal.returns-then-alternatives-index-clause-barred
returns-then-alternatives-index-clause-barred c = λ t. no_alternative_seen c.args.alternatives.now c.args.index c.if-alternatives-index.true

pub returns-in-Barred-clause-barred : goal.returns-in-Barred-clause-barred
returns-in-Barred-clause-barred c = λ t. barred_seen c.args.alternatives.now c.args.index _ c.if-alternatives-index.false c.in-Barred.is
