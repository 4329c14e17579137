-- How much of a message a session holds, and how large the values of encodings are: no more than the places of the type
-- for each bit, or once.
use Rattle.std.specs.Prelude.{◌≡◌, ◌≤◌, ◌+◌, ◌*◌, ℕ, max, Result, Ok, List, length, ⊤}
use Rattle.asn_values.specs.Datum.{Datum}
use Rattle.asn_values.specs.Measures.{cells, places}
use Rattle.asn_values.specs.Profile.{InProfile}
use Rattle.asn_values.specs.Shape.{Shape}
use Rattle.asn_values.specs.View.{datum_of}
use Rattle.asn_rules.specs.Answer.{Ruling, IsEncoding}
use Rattle.asn_rules.specs.Sessions.{Past, waiting, stopped, over}
use Rattle.asn_rules.specs.declared.session.Step.{Step}
use Rattle.asn_rules.specs.declared.session.Step.TheVariants as step
use Rattle.asn_rules.specs.declared.session.FeedFault.{FeedFault}

-- what a type allows for this many octets: its places for each of their bits, or once
abbrev pub room : Shape → ℕ → ℕ
room t octets = places t * max 1 (8 * octets)

-- a value has at most as many cells as its encoding allows
abbrev pub CellsAreFew : Ruling → Type 0
CellsAreFew r = (t : Shape) (v : Datum) (o : List ℕ) → InProfile t → IsEncoding r t v o → cells v ≤ room t (length o)

-- a session with this past holds so much: at most what all octets so far allow, and nothing where it does not go on
abbrev pub Holds : Shape → Past → ℕ → Type 0
Holds t (waiting s) held = held ≤ room t (length s)
Holds t (stopped s fault) held = held ≡ 0
Holds t (over s) held = held ≡ 0

-- whatever its type and its past
abbrev pub HoldsFew : {Q : Type 0} → (Q → Shape → Past → Type 0) → Q → ℕ → Type 0
HoldsFew took q held = (t : Shape) (past : Past) → took q t past → Holds t past held

-- after this answer: a value has at most as many cells as the octets up to its end allow
abbrev pub GivesFew : Result Step FeedFault → Shape → Past → Type 0
GivesFew (Ok (step.Done value used)) t (waiting s) = cells (datum_of value) ≤ room t (length s + used)
GivesFew answer t past = ⊤

abbrev pub GivesFewOf : {Q : Type 0} → (Q → Shape → Past → Type 0) → Q → Result Step FeedFault → Type 0
GivesFewOf took old answer = (t : Shape) (past : Past) → took old t past → GivesFew answer t past
