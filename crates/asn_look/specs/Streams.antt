-- What stands next in an input of messages, which stand there one after the other.
use Rattle.std.specs.Prelude.{◌≡◌, ◌++◌, ◌<◌, ◌≤◌, ◌⊎◌, ℕ, List, [], length, take, Option, Some, None, Result, IfOk, OnSome}
use Rattle.std.specs.Io.KnownBytes.{Consumes, IsAtEnd}
use Rattle.asn_values.specs.Datum.{Datum}
use Rattle.asn_values.specs.Shape.{Shape}
use Rattle.asn_rules.specs.Answer.{Ruling, IsEncoding, NoFront, LiveOctets, max_octets}
use Rattle.asn_rules.specs.Sessions.{Past, waiting}
use Rattle.asn_jobs.specs.declared.job.RunFault.{RunFault}
use Rattle.asn_look.specs.declared.streams.Next.{Next}
use Rattle.asn_look.specs.declared.streams.Next.TheVariants as next

-- the encoding of a value, which has octets
abbrev pub IsMessage : Ruling → Shape → List ℕ → Type 0
IsMessage r t octets = (0 < length octets) × ((v : Datum) × IsEncoding r t v octets)

-- octets that begin with no encoding, and with which none begins, unless it is too long; or a value has no octets, and
-- these are all that were read
abbrev pub IsRefused : Ruling → Shape → List ℕ → Type 0
IsRefused r t octets = (0 < length octets) × ((NoFront r t (take max_octets octets)
    × ((LiveOctets r t (take max_octets octets) → ⊥) ⊎ (max_octets ≤ length octets)))
    ⊎ ((v : Datum) × IsEncoding r t v []))

-- the reader is at its end, where it is known what it was to give
abbrev pub Ends : Option (List ℕ) → Option (List ℕ) → Type 0
Ends given left = OnSome given (IsAtEnd left)

-- octets that begin with no encoding, and are the last of the reader
abbrev pub IsCutShort : Ruling → Shape → List ℕ → Option (List ℕ) → Option (List ℕ) → Type 0
IsCutShort r t octets given left = (0 < length octets) × NoFront r t (take max_octets octets) × Ends given left

-- these are the octets of what stands there
abbrev pub IsNext : Ruling → Shape → Next → List ℕ → Option (List ℕ) → Option (List ℕ) → Type 0
IsNext r t next.Message octets given left = IsMessage r t octets
IsNext r t next.Last octets given left = IsRefused r t octets ⊎ IsCutShort r t octets given left
IsNext r t next.End octets given left = (octets ≡ []) × Ends given left

-- the octets are those of what is told to stand there, and the reader has given them, and no more
abbrev pub Cuts : Ruling → Shape → Result Next RunFault → Option (List ℕ) → Option (List ℕ) → List ℕ → Type 0
Cuts r t result given left octets = IfOk result (λ next. Consumes given left octets × IsNext r t next octets given left)

-- ---- its parts

-- some octets more, which the reader gave
abbrev pub Takes : Option (List ℕ) → Option (List ℕ) → List ℕ → List ℕ → Type 0
Takes given left old new = (more : List ℕ) × (new ≡ old ++ more) × Consumes given left more

-- the session waits with these octets, which are none or begin with no encoding
abbrev pub Waits : {Q : Type 0} → Ruling → (Q → Shape → Past → Type 0) → Q → Shape → List ℕ → Type 0
Waits r took q t octets = took q t (waiting octets) × ((octets ≡ []) ⊎ NoFront r t octets)

-- what is known of a session's octets: what stands there; or that it waits for more, of which there may be none
abbrev pub IsKnown : {Q : Type 0} → Ruling → (Q → Shape → Past → Type 0) → Q → Shape → Option Next → List ℕ → Type 0
IsKnown r took q t None octets = Waits r took q t octets
IsKnown r took q t (Some next.End) octets = Waits r took q t octets
IsKnown r took q t (Some next.Message) octets = IsMessage r t octets
IsKnown r took q t (Some next.Last) octets = IsRefused r t octets
