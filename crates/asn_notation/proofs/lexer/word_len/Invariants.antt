use Rattle.std.proofs.Common.{◌≡◌, ◌+◌, drop}
use Rattle.asn_notation.specs.Lexing.{word_len}
use Rattle.asn_notation.proofs.lexer.word_len.Given as goal

abbrev pub invariant-loop-index : goal.invariant-loop-index
invariant-loop-index l = l.index + word_len (drop l.index l.text) ≡ word_len l.text
