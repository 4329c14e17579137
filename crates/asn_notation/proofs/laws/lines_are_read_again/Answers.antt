use Rattle.asn_notation.proofs.Printing.{line_again}
use Rattle.asn_notation.proofs.laws.lines_are_read_again.Goals as goal

pub returns : goal.returns
returns c = line_again
