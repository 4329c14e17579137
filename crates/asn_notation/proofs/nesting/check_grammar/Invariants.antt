use Rattle.std.proofs.Common.{length}
use denote.Text.{Utf8}
use denote.Shadow.{shadow}
use Rattle.asn_notation.specs.Lexing.{lexed}
use Rattle.asn_notation.proofs.nesting.check_grammar.Given as goal

abbrev pub invariant-assignments : goal.invariant-assignments
invariant-assignments l = shadow (Utf8 l.rest)

abbrev pub decreases-assignments : goal.decreases-assignments
decreases-assignments l = length (lexed l.rest)
