use Rattle.asn_oer.proofs.Encodings.Tells.{oer_tells}
use Rattle.asn_oer.proofs.Encodings.Whole.{oer_laws}
use Rattle.asn_oer.proofs.InPieces.Hold.{oer_cells}
use Rattle.asn_oer.proofs.rules.OerRules.keep_laws.Goals as goal

pub returns-clause-laws : goal.returns-clause-laws
returns-clause-laws c = oer_laws

pub returns-clause-tells : goal.returns-clause-tells
returns-clause-tells c = oer_tells

pub returns-clause-cells : goal.returns-clause-cells
returns-clause-cells c = oer_cells
