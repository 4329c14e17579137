-- What the runner answers to a line.
use Rattle.std.specs.Prelude.{◌≡◌, ◌≤◌, ℕ, pos, Bool, true, false, List, [], ◌∷◌, ◌++◌, length, codes, Ok, Some, Option, IfSome, ⊤}
use Rattle.std.specs.Io.BufRead.{first_piece}
use Rattle.std.specs.Io.KnownBytes.{Appends, Keeps}
use Rattle.hex.specs.Hex.{decode_of, encode_lower}
use Rattle.asn_values.specs.Datum.{Datum, truth}
use Rattle.asn_values.specs.Shape.{Shape, boolean, integer, sequence, must, optional, default, no_fields, field, closed}
use Rattle.asn_rules.specs.Answer.{max_octets}
use Rattle.asn_per.specs.Rules.{IsPerEncoding}
use Rattle.asn_first.specs.declared.runner.FirstFault.{FirstFault}
use Rattle.asn_first.specs.declared.runner.FirstFault.TheVariants as fault

-- SEQUENCE { id INTEGER (0..7), ok BOOLEAN DEFAULT TRUE, flag BOOLEAN OPTIONAL }
abbrev pub sample_shape : Shape
sample_shape =
    sequence (field (codes "id") must (integer (record { low = Some (pos 0); high = Some (pos 7); extensible = false }))
    (field (codes "ok") (default (truth true)) boolean
    (field (codes "flag") optional boolean no_fields))) closed

-- the line has the octets of a message in hexadecimal, and they are the complete encoding of a value
pub record IsMessage (line o : List ℕ) (v : Datum) : Type 0 where
  pub digits : decode_of line ≡ Ok o
  pub few : length o ≤ max_octets
  pub encoding : IsPerEncoding sample_shape v o

-- the line has no such octets
abbrev pub IsNoMessage : List ℕ → Type 0
IsNoMessage line = (o : List ℕ) (v : Datum) → IsMessage line o v → ⊥

-- what is shown and the octets in hexadecimal, each followed by an LF
abbrev pub IsTwoLines : List ℕ → List ℕ → List ℕ → Type 0
IsTwoLines shown o text = text ≡ ((shown ++ 10 ∷ []) ++ encode_lower o) ++ 10 ∷ []

-- the answer to a message: its value is shown, and then its octets
abbrev pub Shows : List ℕ → List ℕ → Type 0
Shows line text = (o : List ℕ) × (v : Datum) × IsMessage line o v × (shown : List ℕ) × IsTwoLines shown o text

-- ---- the answer, as it is written

-- the text that is written for the line, and whether it was a message
abbrev pub IsAnswer : Bool → List ℕ → List ℕ → Type 0
IsAnswer true line text = Shows line text
IsAnswer false line text = IsNoMessage line × (text ≡ codes "! refused" ++ 10 ∷ [])

-- what comes before the first LF, where the octets that will be read are known
abbrev pub IsFirstLine : Option (List ℕ) → List ℕ → Type 0
IsFirstLine given line = IfSome given (λ xs. line ≡ first_piece 10 xs)

-- a line was answered
abbrev pub Answered : Bool → Option (List ℕ) → Option (List ℕ) → Option (List ℕ) → Type 0
Answered ok given before after =
    (line text : List ℕ) × IsFirstLine given line × IsAnswer ok line text × Appends before after text

-- where reading or memory failed, nothing is written
abbrev pub IsUnwritten : FirstFault → Option (List ℕ) → Option (List ℕ) → Type 0
IsUnwritten fault.Read before after = Keeps before after
IsUnwritten fault.Memory before after = Keeps before after
IsUnwritten fault.Write before after = ⊤
