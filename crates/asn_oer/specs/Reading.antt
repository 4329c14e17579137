-- What readers of octets read from the bits of a cursor, and where they stop.
use Rattle.std.specs.Prelude.{◌<ℤ◌, ◌⊎◌, ◌≡◌, ℕ, ℤ, pos, Bool, true, List, [], ◌∷◌, Option, Some, None, ⊤, Result, IfOk, IfErr, IfSome}
use Rattle.std.specs.Option.{option_map}
use Rattle.asn_values.specs.Datum.{Datum, truth, number}
use Rattle.asn_values.specs.Shape.{Range, Shape, boolean, integer}
use Rattle.asn_bits.specs.Sets.{Among}
use Rattle.asn_rules.specs.Chunks.{Chunk}
use Rattle.asn_rules.specs.Listed.{IsOther, Spelt}
use Rattle.asn_rules.specs.OctetReading.{ReadsOctets, StopsAtOctets}
use Rattle.asn_rules.specs.declared.stop.Stop.{Stop}
use Rattle.asn_oer.specs.Oer.{oer, signed_size}
use Rattle.asn_oer.specs.SimpleTypes.{truth_told}

-- ---- what a reader says of its result

-- a value that is given, as the view has it, is spelt by the first octets, and the others follow its spelling
abbrev pub Reads : {V W : Type 0} → Result W Stop → (W → V) → (V → List Chunk → Type 0) → List ℕ → List ℕ → Type 0
Reads result view L old new = IfOk result (λ v. ReadsOctets L (view v) old new)

-- the same of a fast path
abbrev pub ReadsSome : {V W : Type 0} → Option W → (W → V) → (V → List Chunk → Type 0) → List ℕ → List ℕ → Type 0
ReadsSome result view L old new = IfSome result (λ v. ReadsOctets L (view v) old new)

-- where none is given, the reader stopped for that reason
abbrev pub StopsIn : {V W : Type 0} → Result W Stop → (V → List Chunk → Type 0) → List ℕ → Type 0
StopsIn result L old = IfErr result (λ why. StopsAtOctets L old why)

-- ---- what is read

-- the values of a type
abbrev pub ValuesOf : Shape → Datum → List Chunk → Type 0
ValuesOf t = Spelt oer None t

-- the truth values, but for one that is left out
abbrev pub BooleansBut : Option Bool → Datum → List Chunk → Type 0
BooleansBut excluded = Spelt oer (option_map truth excluded) boolean

-- the octet of a truth value, but for one that is left out
abbrev pub TruthOctet : Option Bool → ℕ → Type 0
TruthOctet e n = Among ((0, 0) ∷ (255, 255) ∷ []) n × IsOther (option_map truth e) (truth_told n)

-- ---- integers, but for one, which is the DEFAULT of a component

-- the integers of a range
abbrev pub IntegersBut : Option ℤ → Range → Datum → List Chunk → Type 0
IntegersBut excluded b = Spelt oer (option_map number excluded) (integer b)

-- no low bound, or a negative one
abbrev pub IsBelowZero : Option ℤ → Type 0
IsBelowZero None = ⊤
IsBelowZero (Some low) = low <ℤ pos 0

-- ---- integers as they are written

-- after a length: a bound is missing, or there is an extension mark
abbrev pub IsCounted : Range → Type 0
IsCounted b = (b.extensible ≡ true) ⊎ ((b.low ≡ None) ⊎ (b.high ≡ None))

-- how many octets of two's complement the integers between these bounds have, where it is a fixed number
abbrev pub signed_size_of : Option ℤ → Option ℤ → Option ℕ
signed_size_of (Some low) (Some high) = signed_size low high
signed_size_of (Some low) None = None
signed_size_of None high = None
