use Rattle.asn_notation.proofs.LexedWords.{lexed_read}
use Rattle.asn_notation.proofs.laws.words_are_whole.Goals as goal

pub returns : goal.returns
returns c = lexed_read
