-- What is told of a type alone is what is told of it without a constraint.
use Rattle.std.proofs.Common.{◌≡◌, ℕ, List, true, Ok, Err, refl}
use Rattle.asn_values.specs.declared.value.Value.{Value}
use Rattle.asn_values.specs.Datum.{Datum}
use Rattle.asn_values.specs.Shape.{Shape}
use Rattle.asn_rules.specs.Answer.{Ruling}
use Rattle.asn_rules.specs.Codec.{Decoded}
use Rattle.asn_rules.specs.Measured.{NotMeasured, NotPlaced}
use Rattle.asn_rules.specs.declared.fault.DecodeFault.{DecodeFault}
use Rattle.asn_rules.specs.declared.fault.DecodeFault.TheVariants as decode
use Rattle.asn_rules.specs.declared.fault.LengthFault.{LengthFault}
use Rattle.asn_rules.specs.declared.fault.LengthFault.TheVariants as length_fault
use Rattle.asn_rules.specs.declared.fault.EncodeIntoFault.{EncodeIntoFault}
use Rattle.asn_rules.specs.declared.fault.EncodeIntoFault.TheVariants as into
use Rattle.asn_constraints.specs.Constraints.{Constraint, free, meets}
use Rattle.asn_constrained.specs.declared.fault.ConstrainedFault.TheVariants as under
use Rattle.asn_constrained.specs.Under.{DecodedUnder}
use Rattle.asn_constrained.specs.Measured.{NotMeasuredUnder, NotPlacedUnder}

pub free_fault : (r : Ruling) (t : Shape) (o : List ℕ) (why : DecodeFault) → Decoded r (Err why) t o → DecodedUnder r free (Err (under.Type why)) t o
free_fault r t o (decode.Refused at why) h = h
free_fault r t o (decode.Truncated taken) h = h
free_fault r t o (decode.Rest used) h = (h.0, h.1, (h.2, refl))
free_fault r t o decode.TooLong h = h
free_fault r t o decode.Memory h = h

pub free_value : (r : Ruling) (t : Shape) (o : List ℕ) (v : Value) → Decoded r (Ok v) t o → DecodedUnder r free (Ok v) t o
free_value r t o v h = (h.0, (h.1, refl))

-- and under a constraint it is that of a value that meets it
pub unmeasured : (r : Ruling) (t : Shape) (c : Constraint) (v : Datum) (why : LengthFault) → meets c v ≡ true → NotMeasured r why t v → NotMeasuredUnder r why t c v
unmeasured r t c v length_fault.NotOfType m h = λ p. h p.0
unmeasured r t c v length_fault.TooLong m h = (h, m)

pub unplaced : (r : Ruling) (t : Shape) (c : Constraint) (v : Datum) (why : EncodeIntoFault) (old new : List ℕ) → meets c v ≡ true → NotPlaced r why t v old new → NotPlacedUnder r why t c v old new
unplaced r t c v into.NotOfType old new m h = (λ p. h.0 p.0, h.1)
unplaced r t c v into.TooLong old new m h = (h, m)
unplaced r t c v (into.Short wanted) old new m h = (h, m)
