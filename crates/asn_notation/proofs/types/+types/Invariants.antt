use Rattle.std.proofs.Common.{◌≡◌, ◌≤◌, ◌<◌, ◌+◌, ◌*◌, ℕ, length}
use denote.Text.{Utf8}
use denote.Shadow.{shadow}
use Rattle.asn_notation.specs.Lexing.{lexed}
use Rattle.asn_notation.specs.Tree.{parts_view, branches_view}
use Rattle.asn_notation.specs.Reading.{others, all_others, component_at, alternative_at, type_at}
use Rattle.asn_notation.proofs.types.+types.Given as goal

abbrev pub decreases-type_at : goal.decreases-type_at
decreases-type_at l = 16 * l.levels

abbrev pub decreases-component_at : goal.decreases-component_at
decreases-component_at l = 16 * l.levels + 1

abbrev pub decreases-other_components : goal.decreases-other_components
decreases-other_components l = 16 * l.levels + 2

abbrev pub decreases-more_components : goal.decreases-more_components
decreases-more_components l = 16 * l.levels + 3

abbrev pub decreases-component_list : goal.decreases-component_list
decreases-component_list l = 16 * l.levels + 4

abbrev pub decreases-body_at : goal.decreases-body_at
decreases-body_at l = 16 * l.levels + 5

abbrev pub decreases-sequence_at : goal.decreases-sequence_at
decreases-sequence_at l = 16 * l.levels + 6

abbrev pub decreases-type_after_word : goal.decreases-type_after_word
decreases-type_after_word l = 16 * l.levels + 15

abbrev pub invariant-other_components-components : goal.invariant-other_components-components
invariant-other_components-components l =
    shadow (Utf8 l.rest) × (length (lexed l.rest) ≤ length (lexed l.fn.text))
    × ((m : ℕ) × (length (lexed l.rest) < m)
    × (all_others (component_at (type_at l.fn.levels)) (parts_view l.fn.found.items) (lexed l.fn.text) ≡ others (component_at (type_at l.fn.levels)) m (parts_view l.all.items) (lexed l.rest)))

abbrev pub decreases-other_components-components : goal.decreases-other_components-components
decreases-other_components-components l = length (lexed l.rest)

abbrev pub decreases-alternative_at : goal.decreases-alternative_at
decreases-alternative_at l = 16 * l.levels + 1

abbrev pub decreases-other_alternatives : goal.decreases-other_alternatives
decreases-other_alternatives l = 16 * l.levels + 2

abbrev pub decreases-more_alternatives : goal.decreases-more_alternatives
decreases-more_alternatives l = 16 * l.levels + 3

abbrev pub decreases-alternative_list : goal.decreases-alternative_list
decreases-alternative_list l = 16 * l.levels + 4

abbrev pub decreases-choice_at : goal.decreases-choice_at
decreases-choice_at l = 16 * l.levels + 5

abbrev pub invariant-other_alternatives-alternatives : goal.invariant-other_alternatives-alternatives
invariant-other_alternatives-alternatives l =
    shadow (Utf8 l.rest) × (length (lexed l.rest) ≤ length (lexed l.fn.text))
    × ((m : ℕ) × (length (lexed l.rest) < m)
    × (all_others (alternative_at (type_at l.fn.levels)) (branches_view l.fn.found.items) (lexed l.fn.text) ≡ others (alternative_at (type_at l.fn.levels)) m (branches_view l.all.items) (lexed l.rest)))

abbrev pub decreases-other_alternatives-alternatives : goal.decreases-other_alternatives-alternatives
decreases-other_alternatives-alternatives l = length (lexed l.rest)
