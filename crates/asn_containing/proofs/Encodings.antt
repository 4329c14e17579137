-- Octets that are decoded under a constraint, or are not.
use Rattle.std.proofs.Common.{◌≡◌, ℕ, false, Ok, Err, List, subst}
use Rattle.std.proofs.lemmas.Bool.{true≢false}
use Rattle.std.proofs.Math.Seq.{take-length}
use Rattle.asn_values.specs.declared.value.Value.{Value}
use Rattle.asn_values.specs.Datum.{Datum}
use Rattle.asn_values.specs.Profile.{InProfile}
use Rattle.asn_values.specs.View.{datum_of}
use Rattle.asn_rules.specs.Answer.{Ruling, IsEncoding}
use Rattle.asn_rules.specs.Laws.{AreOctets, RulesLaws}
use Rattle.asn_rules.specs.declared.fault.DecodeFault.TheVariants as decode
use Rattle.asn_constrained.specs.declared.fault.ConstrainedFault.{ConstrainedFault}
use Rattle.asn_constrained.specs.declared.fault.ConstrainedFault.TheVariants as under
use Rattle.asn_constrained.specs.declared.conversion.ConvertFault.TheVariants as convert
use Rattle.asn_constrained.specs.Under.{DecodedUnder}
use Rattle.asn_constrained.specs.Converted.{ConvertsUnder, GivesUnlessMemory}
use Rattle.asn_constrained.proofs.Converting.{exact}
use Rattle.asn_containing.specs.Containing.{TableType, IsContent}
use Rattle.asn_containing.specs.Judged.{IsContentOnly, NoEncoding, is_memory}

-- octets that are decoded are the encoding of that value, and of no other
pub decoded_is : (r : Ruling) (e : TableType) (v : Value) (os : List ℕ) → DecodedUnder r e.constraint (Ok v) e.shape os → IsContent r e (datum_of v) os
decoded_is r e v os d = (d.0, (subst (IsEncoding r e.shape (datum_of v)) (take-length os) d.1.0.1, d.1.1))

pub decoded_only : (r : Ruling) (e : TableType) (v : Value) (os : List ℕ) → RulesLaws r → InProfile e.shape → DecodedUnder r e.constraint (Ok v) e.shape os → IsContentOnly r e (datum_of v) os
decoded_only r e v os laws good d =
    let is = decoded_is r e v os d in
    (is, λ w h. laws.one_value e.shape w (datum_of v) os good h.1.0 is.1.0)

not_read : (fault : ConstrainedFault) (p : List ℕ) → is_memory fault ≡ false → GivesUnlessMemory (Err (convert.Read fault)) p → ⊥
not_read (under.Type decode.Memory) p other h = true≢false other
not_read (under.Type (decode.Refused at why)) p other h = h
not_read (under.Type (decode.Truncated taken)) p other h = h
not_read (under.Type (decode.Rest used)) p other h = h
not_read (under.Type decode.TooLong) p other h = h
not_read (under.Broken used b) p other h = h

-- octets of which a fault is reported, and not that of the memory, are the encoding of no value: those of a value are
-- converted to themselves
pub no_encoding : (r : Ruling) (e : TableType) (os : List ℕ) (fault : ConstrainedFault) → RulesLaws r → InProfile e.shape → AreOctets os → is_memory fault ≡ false
    → DecodedUnder r e.constraint (Err fault) e.shape os → NoEncoding r e os fault
no_encoding r e os fault laws good octets other d = (d, λ v h. not_read fault os other (exact r r e.shape e.constraint os os (Err (convert.Read fault)) laws laws good d (to_itself v h)))
  where
    to_itself : (v : Datum) → IsContent r e v os → ConvertsUnder r r e.constraint e.shape os os
    to_itself v h = (v, h.1.1, record { octets = octets; encoding = h.1.0; within = h.0 }, record { octets = octets; encoding = h.1.0; within = h.0 })
