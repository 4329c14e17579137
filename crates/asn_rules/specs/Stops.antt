-- What it says of units that a reader of a language stopped at them.
use Rattle.std.specs.Prelude.{ℕ, List, ⊤}
use Rattle.asn_rules.specs.Chunks.{Chunk}
use Rattle.asn_rules.specs.Live.{Fielding}
use Rattle.asn_rules.specs.Languages.{Short, Refused}
use Rattle.asn_rules.specs.declared.stop.Stop.{Stop}
use Rattle.asn_rules.specs.declared.stop.Stop.TheVariants as stop

abbrev pub Tells : {V : Type 0} → Fielding → (V → List Chunk → Type 0) → List ℕ → Stop → Type 0
Tells R L us (stop.Refused left why) = Refused R L us left
Tells R L us stop.Short = Short R L us
Tells R L us stop.Memory = ⊤

-- a refusal is exact and tells the units after it, Short is exact, and of the memory nothing is said
pub record Stops {V : Type 0} (R : Fielding) (L : V → List Chunk → Type 0) (us : List ℕ) (why : Stop) : Type 0 where
  pub told : Tells R L us why
