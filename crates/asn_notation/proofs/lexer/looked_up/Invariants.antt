use Rattle.std.proofs.Common.{◌≡◌, length, map}
use Rattle.asn_notation.specs.Lexing.{looked_up}
use Rattle.asn_notation.proofs.lexer.looked_up.Given as goal

abbrev pub invariant-loop-table : goal.invariant-loop-table
invariant-loop-table l = looked_up (map (λ r. (r.0.now, r.1)) l.table) l.word ≡ looked_up (map (λ r. (r.0.now, r.1)) l.initial.table) l.word

abbrev pub decreases-loop-table : goal.decreases-loop-table
decreases-loop-table l = length l.table
