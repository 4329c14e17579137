use Rattle.std.proofs.Common.{◌≤◌, length}
use denote.Text.{Utf8}
use denote.Shadow.{shadow}
use Rattle.asn_notation.specs.Lexing.{lexed}
use Rattle.asn_notation.proofs.nesting.after_type.Given as goal

abbrev pub invariant-types : goal.invariant-types
invariant-types l = shadow (Utf8 l.rest) × (length (lexed l.rest) ≤ length (lexed l.fn.text))

abbrev pub decreases-types : goal.decreases-types
decreases-types l = length (lexed l.rest)
