use Rattle.std.proofs.Common.{◌≡◌, ◌≤◌, ◌<◌, ℕ, length}
use denote.Text.{Utf8}
use denote.Shadow.{shadow}
use Rattle.asn_notation.specs.Lexing.{lexed}
use Rattle.asn_notation.specs.Tree.{items_view}
use Rattle.asn_notation.specs.Reading.{others, all_others, item_at}
use Rattle.asn_notation.proofs.enumerations.other_items.Given as goal

abbrev pub invariant-items : goal.invariant-items
invariant-items l =
    shadow (Utf8 l.rest) × (length (lexed l.rest) ≤ length (lexed l.fn.text))
    × ((m : ℕ) × (length (lexed l.rest) < m)
    × (all_others item_at (items_view l.fn.found.items) (lexed l.fn.text) ≡ others item_at m (items_view l.all.items) (lexed l.rest)))

abbrev pub decreases-items : goal.decreases-items
decreases-items l = length (lexed l.rest)
