use Rattle.asn_notation.proofs.Printing.{spaced_again}
use Rattle.asn_notation.proofs.laws.tokens_are_read_again.Goals as goal

pub returns : goal.returns
returns c = spaced_again
