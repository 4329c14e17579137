-- The message that octets begin with, and what is said of all octets where it is known.
use Rattle.std.proofs.Common.{◌≡◌, ◌≤◌, ◌<◌, ◌+◌, ℕ, Ok, Err, List, ◌++◌, length, take, drop, ap, ◌∙◌, subst, arith}
use Rattle.std.proofs.lemmas.List.{take-append-drop, length-take, take-take}
use Rattle.asn_values.specs.Datum.{Datum}
use Rattle.asn_values.specs.Shape.{Shape}
use Rattle.asn_values.specs.View.{datum_of}
use Rattle.asn_values.specs.declared.value.Value.{Value}
use Rattle.asn_rules.specs.Answer.{Ruling, IsEncoding, Answer, done, max_octets}
use Rattle.asn_rules.specs.Codec.{Decoded, DecodedFront}
use Rattle.asn_rules.specs.declared.fault.DecodeFault.{DecodeFault}
use Rattle.asn_rules.specs.declared.fault.DecodeFault.TheVariants as decode
use Rattle.asn_rules.proofs.Feeding.Sessions.{decoded_all}

-- an encoding in front of octets, and those after it
pub front_and_rest : (r : Ruling) (t : Shape) (o : List ℕ) (v : Datum) (used : ℕ) → Answer r t (take max_octets o) (done v used) → (used ≤ length o) × ((e : List ℕ) × IsEncoding r t v e × (e ++ drop used o ≡ o))
front_and_rest r t o v used h =
    let few = length-take max_octets o in
    let within : used ≤ length o = omega (arith, h.0, few) in
    let read : used ≤ max_octets = omega (arith, h.0, few) in
    (within, (take used (take max_octets o), h.1, ap (λ (e : List ℕ). e ++ drop used o) (take-take used max_octets o read) ∙ take-append-drop used o))

-- where no more octets follow it, it is all
pub whole_decoded : (r : Ruling) (t : Shape) (o : List ℕ) (v : Value) (used : ℕ) → DecodedFront r (Ok used) v t o → (used < length o → ⊥) → Decoded r (Ok v) t o
whole_decoded r t o v used h last =
    let same : used ≡ 0 + used = omega arith in
    decoded_all r t o (datum_of v) used (subst (λ (n : ℕ). Answer r t (take max_octets o) (done (datum_of v) n)) same h) last

-- where more follow, there is a rest
pub rest_decoded : (r : Ruling) (t : Shape) (o : List ℕ) (v : Value) (used : ℕ) → DecodedFront r (Ok used) v t o → used < length o → Decoded r (Err (decode.Rest used)) t o
rest_decoded r t o v used h more = (more, datum_of v, h)

-- where there is none, there is no value of all octets
pub fault_decoded : (r : Ruling) (t : Shape) (o : List ℕ) (v : Value) (why : DecodeFault) → DecodedFront r (Err why) v t o → Decoded r (Err why) t o
fault_decoded r t o v (decode.Refused at why) h = h
fault_decoded r t o v (decode.Truncated taken) h = h
fault_decoded r t o v (decode.Rest used) h = absurd h
fault_decoded r t o v decode.TooLong h = h
fault_decoded r t o v decode.Memory h = h
