-- Octets of one set of encoding rules and those of another, for one value that meets a constraint.
use Rattle.std.specs.Prelude.{◌≡◌, ◌<◌, ℕ, true, Result, Ok, Err, List, length, ⊤, Vec}
use Rattle.std.specs.Global.{Global}
use Rattle.asn_values.specs.Datum.{Datum}
use Rattle.asn_values.specs.Profile.{InProfile}
use Rattle.asn_values.specs.Shape.{Shape}
use Rattle.asn_rules.specs.Answer.{Ruling, IsEncoding, max_octets}
use Rattle.asn_rules.specs.CodecLaws.{Encoded}
use Rattle.asn_rules.specs.declared.fault.DecodeFault.TheVariants as decode
use Rattle.asn_constraints.specs.Constraints.{Constraint, meets}
use Rattle.asn_constrained.specs.declared.conversion.ConvertFault.{ConvertFault}
use Rattle.asn_constrained.specs.declared.conversion.ConvertFault.TheVariants as fault
use Rattle.asn_constrained.specs.declared.fault.ConstrainedFault.TheVariants as under
use Rattle.asn_constrained.specs.Under.{DecodedUnder}

-- the octets o by the rules a and p by the rules b are encodings under the constraint of one value of the type, each of
-- at most max_octets
abbrev pub ConvertsUnder : Ruling → Ruling → Constraint → Shape → List ℕ → List ℕ → Type 0
ConvertsUnder a b c t o p = (v : Datum) × (meets c v ≡ true) × Encoded a t v o × Encoded b t v p

-- the octets o by the rules a are the encoding under the constraint of a value
abbrev pub IsRead : Ruling → Constraint → Shape → List ℕ → Datum → Type 0
IsRead a c t o v = (meets c v ≡ true) × Encoded a t v o

-- what is answered to the octets o: those of the same value by the rules b; why a decoder of the rules a gives no
-- value; that the encodings of the value by b are too long; of the memory, that o is an encoding under the constraint
abbrev pub ConvertedUnder : Ruling → Ruling → Constraint → Result (Vec ℕ Global) ConvertFault → Shape → List ℕ → Type 0
ConvertedUnder a b c (Ok p) t o = ConvertsUnder a b c t o p.items
ConvertedUnder a b c (Err (fault.Read why)) t o = DecodedUnder a c (Err why) t o
ConvertedUnder a b c (Err fault.TooLong) t o =
    (v : Datum) × IsRead a c t o v × ((p : List ℕ) → IsEncoding b t v p → max_octets < length p)
ConvertedUnder a b c (Err fault.Memory) t o = (v : Datum) × IsRead a c t o v

-- these octets, or want of memory
abbrev pub GivesUnlessMemory : Result (Vec ℕ Global) ConvertFault → List ℕ → Type 0
GivesUnlessMemory (Ok q) p = q.items ≡ p
GivesUnlessMemory (Err (fault.Read (under.Type decode.Memory))) p = ⊤
GivesUnlessMemory (Err fault.Memory) p = ⊤
GivesUnlessMemory _ p = ⊥

-- what was converted, converted back, gives the octets that it was made of, or want of memory
abbrev pub TurnsBackUnder : Ruling → Ruling → Type 0
TurnsBackUnder a b =
    (t : Shape) (c : Constraint) (o : List ℕ) (there back : Result (Vec ℕ Global) ConvertFault) (p : Vec ℕ Global)
    → InProfile t → ConvertedUnder a b c there t o → there ≡ Ok p → ConvertedUnder b a c back t p.items
    → GivesUnlessMemory back o
