-- Octets of one set of encoding rules and those of another, under a constraint.
use Rattle.std.proofs.Common.{◌≡◌, ◌<◌, ℕ, true, List, length, take, ⊎_elim, subst, sym, ap, ◌∙◌, arith}
use Rattle.std.specs.Prelude.{Result, Ok, Err, Vec}
use Rattle.std.specs.Global.{Global}
use Rattle.std.proofs.lemmas.Bool.{true≢false}
use Rattle.std.proofs.lemmas.List.{take_all}
use Rattle.std.proofs.Math.Seq.{take-length}
use Rattle.asn_values.specs.declared.value.Value.{Value}
use Rattle.asn_values.specs.Datum.{Datum}
use Rattle.asn_values.specs.Shape.{Shape}
use Rattle.asn_values.specs.Profile.{InProfile}
use Rattle.asn_values.specs.View.{datum_of}
use Rattle.asn_rules.specs.Answer.{Ruling, IsEncoding, Answer, done, max_octets}
use Rattle.asn_rules.specs.Codec.{Decoded}
use Rattle.asn_rules.specs.CodecLaws.{Encoded}
use Rattle.asn_rules.specs.Laws.{AreOctets, RulesLaws}
use Rattle.asn_rules.specs.declared.fault.DecodeFault.{DecodeFault}
use Rattle.asn_rules.specs.declared.fault.DecodeFault.TheVariants as decode
use Rattle.asn_rules.proofs.Answer.CodecLaws.{decodes_encoded}
use Rattle.asn_rules.proofs.Answer.OneAnswer.{one_answer}
use Rattle.asn_constraints.specs.Constraints.{Constraint, meets}
use Rattle.asn_constrained.specs.declared.conversion.ConvertFault.{ConvertFault}
use Rattle.asn_constrained.specs.declared.conversion.ConvertFault.TheVariants as fault
use Rattle.asn_constrained.specs.declared.fault.ConstrainedFault.{ConstrainedFault}
use Rattle.asn_constrained.specs.declared.fault.ConstrainedFault.TheVariants as under
use Rattle.asn_constrained.proofs.Pairs.{value_of}
use Rattle.asn_constraints.specs.declared.broken.Broken.{Broken}
use Rattle.asn_constrained.specs.Under.{ReportsBroken, DecodedUnder}
use Rattle.asn_constrained.specs.Converted.{ConvertsUnder, ConvertedUnder, GivesUnlessMemory, TurnsBackUnder}

-- the octets of a value that was decoded are its encoding
pub decoded_encodes : (r : Ruling) (t : Shape) (c : Constraint) (o : List ℕ) (v : Value) → AreOctets o → DecodedUnder r c (Ok v) t o → Encoded r t (datum_of v) o
decoded_encodes r t c o v os d = record { octets = os; encoding = subst (IsEncoding r t (datum_of v)) (take-length o) d.1.0.1; within = d.0 }

-- a decoder of the type alone reports no fault of an encoding except memory
no_fault : (a : Ruling) (t : Shape) (o : List ℕ) (v : Datum) (why : DecodeFault) → RulesLaws a → InProfile t → Encoded a t v o → Decoded a (Err why) t o → why ≡ decode.Memory
no_fault a t o v why la good e d = ⊎_elim (λ h. cc h.1) (λ e. cc e) (decodes_encoded a la t v o (Err why) good e d)

-- nor one under the constraint that the value breaks it
no_broken : (a : Ruling) (t : Shape) (c : Constraint) (o : List ℕ) (v : Datum) (used : ℕ) (b : Broken) → RulesLaws a → InProfile t → meets c v ≡ true → Encoded a t v o → ReportsBroken a t c (take max_octets o) used b → ⊥
unfolding value_of
no_broken a t c o v used b la good met e h =
    let all : take max_octets o ≡ o = take_all max_octets o e.within in
    let theirs : Answer a t o (done h.value used) = subst (λ (l : List ℕ). Answer a t l (done h.value used)) all h.answered in
    let mine : Answer a t o (done v (length o)) = (omega arith, subst (IsEncoding a t v) (sym (take-length o)) e.encoding) in
    let same : done h.value used ≡ done v (length o) = one_answer a la t o (done h.value used) (done v (length o)) good e.octets theirs mine in
    let value : h.value ≡ v = ap value_of same in
    true≢false (sym met ∙ ap (λ d. meets c d) (sym value) ∙ h.broken)

read_memory : (why : DecodeFault) (p : List ℕ) → why ≡ decode.Memory → GivesUnlessMemory (Err (fault.Read (under.Type why))) p
read_memory why p e = rw e tt

-- octets that are converted are read
read_fault : (a b : Ruling) (t : Shape) (c : Constraint) (o p : List ℕ) (why : ConstrainedFault) → RulesLaws a → InProfile t → ConvertsUnder a b c t o p → DecodedUnder a c (Err why) t o → GivesUnlessMemory (Err (fault.Read why)) p
read_fault a b t c o p (under.Broken used broken) la good w d = absurd (no_broken a t c o w.0 used broken la good w.1 w.2 d)
read_fault a b t c o p (under.Type (decode.Refused at why)) la good w d = read_memory (decode.Refused at why) p (no_fault a t o w.0 (decode.Refused at why) la good w.2 d)
read_fault a b t c o p (under.Type (decode.Truncated taken)) la good w d = read_memory (decode.Truncated taken) p (no_fault a t o w.0 (decode.Truncated taken) la good w.2 d)
read_fault a b t c o p (under.Type (decode.Rest used)) la good w d = read_memory (decode.Rest used) p (no_fault a t o w.0 (decode.Rest used) la good w.2 (d.0, d.1, d.2.0))
read_fault a b t c o p (under.Type decode.TooLong) la good w d = read_memory decode.TooLong p (no_fault a t o w.0 decode.TooLong la good w.2 d)
read_fault a b t c o p (under.Type decode.Memory) la good w d = tt

-- what is answered to octets that are converted is what they are converted to
pub exact : (a b : Ruling) (t : Shape) (c : Constraint) (o p : List ℕ) (answer : Result (Vec ℕ Global) ConvertFault) → RulesLaws a → RulesLaws b → InProfile t
    → ConvertedUnder a b c answer t o → ConvertsUnder a b c t o p → GivesUnlessMemory answer p
exact a b t c o p (Ok q) la lb good h w =
    let same : h.0 ≡ w.0 = la.one_value t h.0 w.0 o good h.2.encoding w.2.encoding in
    lb.one_encoding t w.0 q.items p good h.3.octets w.3.octets (subst (λ d. IsEncoding b t d q.items) same h.3.encoding) w.3.encoding
exact a b t c o p (Err (fault.Read why)) la lb good h w = read_fault a b t c o p why la good w h
exact a b t c o p (Err fault.TooLong) la lb good h w =
    let same : w.0 ≡ h.0 = la.one_value t w.0 h.0 o good w.2.encoding h.1.1.encoding in
    let long : max_octets < length p = h.2 p (subst (λ d. IsEncoding b t d p) same w.3.encoding) in
    absurd (omega (arith, long, w.3.within))
exact a b t c o p (Err fault.Memory) la lb good h w = tt

pub turns_back : (a b : Ruling) → RulesLaws a → RulesLaws b → TurnsBackUnder a b
turns_back a b la lb t c o there back p good first is second =
    let forth : ConvertsUnder a b c t o p.items = subst (λ answer. ConvertedUnder a b c answer t o) is first in
    exact b a t c p.items o back lb la good second (forth.0, forth.1, forth.3, forth.2)
