use Rattle.std.proofs.Common.{◌≡◌, List, [], ◌∷◌, drop, Option, refl}
use Rattle.std.specs.Option.{option_map}
use Rattle.asn_values.specs.Datum.{Datum}
use Rattle.asn_values.proofs.Alternatives.{no_truth}
use Rattle.asn_source.specs.Parts.{first_entry}
use Rattle.asn_message.specs.Rows.{row_value}
use Rattle.asn_message.specs.Sources.{slot_entries}
use Rattle.asn_message.proofs.source.SlotEachIterator.next.Goals as goal

-- the first of the entries that are left, and the others
next_there : (es others : List (Option Datum)) (e : Option Datum) → (es ≡ [] → ⊥) → e ≡ first_entry es → others ≡ drop 1 es
    → es ≡ e ∷ others
next_there [] others e some first rest = absurd (some refl)
next_there (x ∷ es) others e some first rest = rw (first, rest) refl

pub returns-clause-steps : goal.returns-clause-steps
returns-clause-steps c =
    next_there (slot_entries c.args.self.now.0) (slot_entries c.take_entry-entry.new.entries) (option_map (λ p. row_value p.row) c.take_entry-entry.result)
    (λ none. no_truth (c.if-is_empty.ensures.1 none)) c.take_entry-entry.ensures.first c.take_entry-entry.ensures.others
