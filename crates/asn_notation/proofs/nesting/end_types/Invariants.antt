use Rattle.std.proofs.Common.{◌≤◌, length}
use denote.Text.{Utf8}
use denote.Shadow.{shadow}
use Rattle.asn_notation.specs.Lexing.{lexed}
use Rattle.asn_notation.proofs.nesting.end_types.Given as goal

abbrev pub invariant-lists : goal.invariant-lists
invariant-lists l = shadow (Utf8 l.rest) × (length (lexed l.rest) ≤ length (lexed l.fn.text))

abbrev pub decreases-lists : goal.decreases-lists
decreases-lists l = length (lexed l.rest)
