-- What a reader of messages of newer and older senders answers.
use Rattle.std.specs.Prelude.{◌<◌, ◌≤◌, ◌++◌, ℕ, List, length, map}
use Rattle.asn_values.specs.Datum.{Datum}
use Rattle.asn_values.specs.Shape.{Shape}
use Rattle.asn_values.specs.View.{datum_of}
use Rattle.asn_rules.specs.Answer.{max_octets}
use Rattle.asn_rules.specs.declared.newer.Newer.{Newer}
use Rattle.asn_rules.specs.declared.newer.Skipped.{Skipped}
use Rattle.asn_newer.specs.Loose.{LooseCoding, IsLoose, IsLooseAt}
use Rattle.asn_newer.specs.Skipped as fields
use Rattle.asn_newer.specs.declared.path.SkippedAt.{SkippedAt}
use Rattle.asn_newer.specs.declared.path.NewerAt.{NewerAt}
use Rattle.asn_newer.specs.declared.halt.Halt.{Halt}
use Rattle.asn_newer.specs.declared.halt.Halt.TheVariants as halt
use Rattle.asn_newer.specs.declared.fault.NewerFault.{NewerFault}
use Rattle.asn_newer.specs.declared.fault.NewerFault.TheVariants as fault

-- a skipped field, as the program holds it
abbrev pub skipped_of : Skipped → fields.Skipped
skipped_of s = record { place = s.place; octets = s.octets.items }

abbrev pub skipped_seen : List Skipped → List fields.Skipped
skipped_seen ss = map skipped_of ss

-- the same with its path
abbrev pub skipped_at_of : SkippedAt → fields.SkippedAt
skipped_at_of s = record { path = s.path.items; field = skipped_of s.field }

abbrev pub skipped_at_seen : List SkippedAt → List fields.SkippedAt
skipped_at_seen ss = map skipped_at_of ss

-- the octets, which are not too many, are read as the value, with these fields skipped, each at its path
abbrev pub IsNewerAt : LooseCoding → Shape → NewerAt → List ℕ → Type 0
IsNewerAt l t n o =
    IsLooseAt l t (datum_of n.value) (skipped_at_seen n.skipped.items) o × (length o ≤ max_octets)

-- the same, wherever the fields are
abbrev pub IsNewer : LooseCoding → Shape → Newer → List ℕ → Type 0
IsNewer l t n o = IsLoose l t (datum_of n.value) (skipped_seen n.skipped.items) o × (length o ≤ max_octets)

-- the octets are read as no value
abbrev pub IsNoMessage : LooseCoding → Shape → List ℕ → Type 0
IsNoMessage l t o = (v : Datum) (s : List fields.Skipped) → IsLoose l t v s o → ⊥

-- nor are any that begin with them and are not too many: the octets are no message that was cut
abbrev pub BeginsNoMessage : LooseCoding → Shape → List ℕ → Type 0
BeginsNoMessage l t o = (rest : List ℕ) → length (o ++ rest) ≤ max_octets → IsNoMessage l t (o ++ rest)

-- the octets are too many exactly where that is answered, and are read as no value unless memory was wanting; those of
-- a message that was cut are told as cut
abbrev pub NotNewer : LooseCoding → Shape → List ℕ → NewerFault → Type 0
NotNewer l t o fault.Memory = length o ≤ max_octets
NotNewer l t o fault.TooLong = max_octets < length o
NotNewer l t o fault.Truncated = (length o ≤ max_octets) × IsNoMessage l t o
NotNewer l t o _ = (length o ≤ max_octets) × BeginsNoMessage l t o

-- what is told of a message where its reader halts
abbrev pub fault_of : Halt → NewerFault
fault_of halt.Refused = fault.Refused
fault_of halt.Short = fault.Truncated
fault_of halt.TooMany = fault.TooManyAdditions
fault_of halt.Memory = fault.Memory
