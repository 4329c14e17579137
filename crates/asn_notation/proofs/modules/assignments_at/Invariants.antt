use Rattle.std.proofs.Common.{◌≡◌, ◌≤◌, ◌<◌, ℕ, length}
use denote.Text.{Utf8}
use denote.Shadow.{shadow}
use Rattle.asn_notation.specs.Lexing.{lexed}
use Rattle.asn_notation.specs.Tree.{assignments_view}
use Rattle.asn_notation.specs.ModuleReading.{more_assignments, assignments_at}
use Rattle.asn_notation.proofs.modules.assignments_at.Given as goal

abbrev pub invariant-assignments : goal.invariant-assignments
invariant-assignments l =
    shadow (Utf8 l.rest) × (length (lexed l.rest) ≤ length (lexed l.fn.text))
    × ((m : ℕ) × (length (lexed l.rest) < m)
    × (assignments_at l.fn.levels (lexed l.fn.text) ≡ more_assignments l.fn.levels m (assignments_view l.all.items) (lexed l.rest)))

abbrev pub decreases-assignments : goal.decreases-assignments
decreases-assignments l = length (lexed l.rest)
