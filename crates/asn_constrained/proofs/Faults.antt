-- The octets of a value that breaks a constraint.
use Rattle.std.proofs.Common.{◌≡◌, ℕ, Some, Ok, Err, List, length, take, sym, subst}
use Rattle.std.proofs.lemmas.List.{take_all}
use Rattle.asn_values.specs.Shape.{Shape}
use Rattle.asn_values.specs.View.{datum_of}
use Rattle.asn_values.specs.declared.value.Value.{Value}
use Rattle.asn_rules.specs.Answer.{Ruling, Answer, done, max_octets}
use Rattle.asn_rules.specs.Codec.{Decoded}
use Rattle.asn_rules.specs.declared.fault.DecodeFault.TheVariants as decode
use Rattle.asn_constraints.specs.Constraints.{Constraint}
use Rattle.asn_constrained.specs.declared.fault.ConstrainedFault.{ConstrainedFault}
use Rattle.asn_constrained.specs.declared.fault.ConstrainedFault.TheVariants as under
use Rattle.asn_constrained.specs.Under.{Judged, DecodedUnder}

module _ (r : Ruling) (t : Shape) (c : Constraint) (o : List ℕ) where
  -- the octets of a value that breaks the constraint, where they are all
  pub judged_whole : (v : Value) (fault : ConstrainedFault) → Decoded r (Ok v) t o → Judged c (datum_of v) (length o) (Some fault) → DecodedUnder r c (Err fault) t o
  judged_whole v (under.Broken used b) h j =
      let all : o ≡ take max_octets o = sym (take_all max_octets o h.0) in
      let here : Answer r t (take max_octets o) (done (datum_of v) (length o)) = subst (λ (l : List ℕ). Answer r t l (done (datum_of v) (length o))) all h.1 in
      record {
        value = datum_of v;
        answered = subst (λ (n : ℕ). Answer r t (take max_octets o) (done (datum_of v) n)) (sym j.0) here;
        broken = j.1.0;
        place = j.1.1;
      }
  judged_whole v (under.Type decode.Memory) h j = tt
  judged_whole v (under.Type (decode.Refused at why)) h j = absurd j
  judged_whole v (under.Type (decode.Truncated taken)) h j = absurd j
  judged_whole v (under.Type (decode.Rest used)) h j = absurd j
  judged_whole v (under.Type decode.TooLong) h j = absurd j
