-- What a reader of messages of newer and older senders says where it gives no value.
use Rattle.std.specs.Prelude.{◌++◌, ℕ, List, ⊤}
use Rattle.asn_rules.specs.Chunks.{Chunk}
use Rattle.asn_rules.specs.Languages.{NoSpelling}
use Rattle.asn_rules.specs.Live.{Fielding}
use Rattle.asn_rules.specs.declared.stop.Stop.{Stop}
use Rattle.asn_rules.specs.declared.stop.Stop.TheVariants as stop
use Rattle.asn_walk.specs.Coding.{Coding, fields_of_rules}
use Rattle.asn_newer.specs.declared.halt.Halt.{Halt}
use Rattle.asn_newer.specs.declared.halt.Halt.TheVariants as halt

-- no front of the units is a spelling, and none will be, whatever follows them
abbrev pub NoBeginning : {V : Type 0} → Fielding → (V → List Chunk → Type 0) → List ℕ → Type 0
NoBeginning R L us = (after : List ℕ) → NoSpelling R L (us ++ after)

abbrev pub Tells : {V : Type 0} → Coding → (V → List Chunk → Type 0) → List ℕ → Halt → Type 0
Tells c L us halt.Memory = ⊤
Tells c L us halt.Short = NoSpelling (fields_of_rules c) L us
Tells c L us _ = NoBeginning (fields_of_rules c) L us

-- units that end too early are no spelling, those that are refused begin none, and of memory nothing is said
pub record Halts {V : Type 0} (c : Coding) (L : V → List Chunk → Type 0) (us : List ℕ) (why : Halt) : Type 0 where
  pub told : Tells c L us why

-- a reader of the language halts at these bits
abbrev pub HaltsAt : {V : Type 0} → Coding → (V → List Chunk → Type 0) → List ℕ → Halt → Type 0
HaltsAt c L old why = Halts c L (c.to_units old) why

-- too many is told only where that is so, and a plain refusal only where it is not
abbrev pub TellsPast : Type 0 → Halt → Type 0
TellsPast P halt.TooMany = P
TellsPast P halt.Refused = P → ⊥
TellsPast P _ = ⊤

-- as a reader of a part stops
abbrev pub halt_of : Stop → Halt
halt_of (stop.Refused left why) = halt.Refused
halt_of stop.Short = halt.Short
halt_of stop.Memory = halt.Memory

-- units that may go on as another part end too early, whatever is told of this one
abbrev pub halt_before_end : Halt → Halt
halt_before_end halt.Memory = halt.Memory
halt_before_end _ = halt.Short

-- an open type field whose content ends too early is refused: the field itself has been read to its end
abbrev pub halt_of_field : Halt → Halt
halt_of_field halt.Short = halt.Refused
halt_of_field halt.Refused = halt.Refused
halt_of_field halt.TooMany = halt.TooMany
halt_of_field halt.Memory = halt.Memory
