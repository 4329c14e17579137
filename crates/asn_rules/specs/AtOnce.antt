-- What is answered to the octets of a message that are given at once.
use Rattle.std.specs.Prelude.{ℕ, Result, Bool, true, false, List, []}
use Rattle.asn_values.specs.Datum.{Datum}
use Rattle.asn_values.specs.Shape.{Shape}
use Rattle.asn_rules.specs.Answer.{Ruling, IsEncoding}
use Rattle.asn_rules.specs.Sessions.{waiting, Fed}
use Rattle.asn_rules.specs.declared.session.Step.{Step}
use Rattle.asn_rules.specs.declared.session.FeedFault.{FeedFault}

-- what is answered to all octets at once: what a session answers to its first piece
abbrev pub FedAtOnce : Ruling → Shape → List ℕ → Result Step FeedFault → Type 0
FedAtOnce r t s answer = Fed r t (waiting []) s answer

-- whether no octets are an encoding
abbrev pub TellsIfNone : Ruling → Shape → Bool → Type 0
TellsIfNone r t true = (v : Datum) × IsEncoding r t v []
TellsIfNone r t false = (v : Datum) → IsEncoding r t v [] → ⊥
