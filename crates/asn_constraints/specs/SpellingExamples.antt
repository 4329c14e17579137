-- What a newer sender's value is judged by.
use Rattle.std.specs.Prelude.{◌≡◌, ◌∷◌, [], pos, true, false, Some, None, codes, refl}
use Rattle.asn_values.specs.Datum.{truth, nothing, number, item, bit_list, characters, alternative, unknown_item, unknown_alternative}
use Rattle.asn_values.specs.ExampleTypes.{bits_of, entries, items}
use Rattle.asn_constraints.specs.Times.{generalized}
use Rattle.asn_constraints.specs.Constraints.{either, except, trimmed, time, on_elements, meets}
use Rattle.asn_constraints.specs.Spelling.{spelling}
use Rattle.asn_constraints.specs.ConstraintExamples.{permissions, filter, grouped, with_a_gap, correlated, choice_of_two, hexadecimal}

-- a newer version may have closed a gap
pub gap_closed : meets (spelling with_a_gap) (number (pos 5)) ≡ true
gap_closed = refl

pub gap_closed_in_a_list : meets (spelling (on_elements with_a_gap)) (items (number (pos 5) ∷ [])) ≡ true
gap_closed_in_a_list = refl

pub more_letters : meets (spelling hexadecimal) (characters (codes "3f")) ≡ true
more_letters = refl

-- and allow an alternative
pub alternative_allowed : meets (spelling choice_of_two) (alternative 3 nothing) ≡ true
alternative_allowed = refl

-- and more components together
pub correlation_loosened : meets (spelling correlated) (entries (Some (truth true) ∷ Some (number (pos 2)) ∷ [])) ≡ true
correlation_loosened = refl

-- it writes no DEFAULT out, and no empty group
pub still_written_out : meets (spelling permissions) (entries (Some (bit_list (bits_of "10000000")) ∷ Some (truth true) ∷ [])) ≡ false
still_written_out = refl

pub still_empty : meets (spelling grouped) (entries (Some (truth true) ∷ Some (entries (None ∷ None ∷ [])) ∷ [])) ≡ false
still_empty = refl

-- and no last zeros
pub still_trimmed : meets (spelling (trimmed 0)) (bit_list (bits_of "110")) ≡ false
still_trimmed = refl

pub still_canonical : meets (spelling (time generalized)) (characters (codes "20211130113400.250Z")) ≡ false
still_canonical = refl

-- of two DEFAULTs in a union one must be left out
pub union_of_spelling : meets (spelling (either (except (item 1)) (except (item 1)))) (item 1) ≡ false
union_of_spelling = refl

-- what the type has not is not judged
pub unknown_filter : meets (spelling filter) (entries (Some (unknown_item (pos 1)) ∷ Some (truth true) ∷ [])) ≡ true
unknown_filter = refl

pub unknown_choice : meets (spelling choice_of_two) (unknown_alternative 7) ≡ true
unknown_choice = refl
