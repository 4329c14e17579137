-- What a search for the first broken place finds, its path turned: from the inside out.
use Rattle.std.specs.Prelude.{◌≡◌, ◌⊎◌, ℕ, true, List, [], reverse, Option, Some, None}
use Rattle.asn_values.specs.Datum.{Datum}
use Rattle.asn_constraints.specs.declared.broken.Broken.{Broken}
use Rattle.asn_constraints.specs.declared.broken.Reason.{Reason}
use Rattle.asn_constraints.specs.declared.broken.Reason.TheVariants as reason
use Rattle.asn_constraints.specs.Constraints.{Constraint, must_be, must_not_be, meets}
use Rattle.asn_constraints.specs.View.{OnOne, meets_one}
use Rattle.asn_constraints.specs.Broken.{BreaksAt}

-- nothing where the value meets the constraint, else a place
abbrev pub Finds : Constraint → Datum → Option Broken → Type 0
Finds c d None = meets c d ≡ true
Finds c d (Some b) = BreaksAt c d (reverse b.path.items) b.reason

-- an entry that is missing, must not be there, or breaks the constraint
abbrev pub BreaksEntry : OnOne → Option Datum → List ℕ → Reason → Type 0
BreaksEntry o None path r = (o.presence ≡ must_be) × (path ≡ []) × (r ≡ reason.Missing)
BreaksEntry o (Some d) path r =
    ((o.presence ≡ must_not_be) × (path ≡ []) × (r ≡ reason.Present)) ⊎ BreaksAt o.constraint d path r

abbrev pub FindsEntry : OnOne → Option Datum → Option Broken → Type 0
FindsEntry o e None = meets_one o e ≡ true
FindsEntry o e (Some b) = BreaksEntry o e (reverse b.path.items) b.reason
