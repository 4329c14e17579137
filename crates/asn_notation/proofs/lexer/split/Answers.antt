use Rattle.asn_notation.proofs.LexingLemmas.{boundary}
use Rattle.asn_notation.proofs.lexer.split.Goals as goal

pub split_at-requires : goal.split_at-requires
split_at-requires c = boundary c.args.text.now c.args.at c.utf8.text c.requires.within c.requires.ascii
