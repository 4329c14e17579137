use Rattle.asn_per.proofs.Encodings.Tells.{per_tells}
use Rattle.asn_per.proofs.Encodings.Whole.{per_laws}
use Rattle.asn_per.proofs.InPieces.Hold.{per_cells}
use Rattle.asn_per.proofs.rules.PerRules.keep_laws.Goals as goal

pub returns-clause-laws : goal.returns-clause-laws
returns-clause-laws c = per_laws

pub returns-clause-tells : goal.returns-clause-tells
returns-clause-tells c = per_tells

pub returns-clause-cells : goal.returns-clause-cells
returns-clause-cells c = per_cells
