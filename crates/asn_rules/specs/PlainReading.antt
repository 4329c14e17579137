-- What the result of a reader of plain units says of them. No sealed field stands among such units, so it says
-- the same under any rules for sealed fields.
use Rattle.std.specs.Prelude.{ℕ, List, Result, IfOk, IfErr}
use Rattle.asn_rules.specs.Chunks.{Chunk}
use Rattle.asn_rules.specs.Live.{Fielding}
use Rattle.asn_rules.specs.Languages.{Spells}
use Rattle.asn_rules.specs.Stops.{Stops}
use Rattle.asn_rules.specs.declared.stop.Stop.{Stop}

-- a value that is given has its spelling in front of the units, and the others follow it
abbrev pub ReadsPlain : {V : Type 0} → (V → List Chunk → Type 0) → Result V Stop → List ℕ → List ℕ → Type 0
ReadsPlain L result old new = (R : Fielding) → IfOk result (λ v. Spells R L v old new)

-- where none is given, the reader stopped for that reason
abbrev pub StopsPlain : {V W : Type 0} → (V → List Chunk → Type 0) → Result W Stop → List ℕ → Type 0
StopsPlain L result old = (R : Fielding) → IfErr result (λ why. Stops R L old why)
