-- Octets of one set of encoding rules and those of another.
use Rattle.std.proofs.Common.{◌≡◌, ◌<◌, ℕ, List, length, ⊎_elim, subst, arith}
use Rattle.std.specs.Prelude.{Result, Ok, Err, Vec}
use Rattle.std.specs.Global.{Global}
use Rattle.std.proofs.Math.Seq.{take-length}
use Rattle.asn_values.specs.declared.value.Value.{Value}
use Rattle.asn_values.specs.Shape.{Shape}
use Rattle.asn_values.specs.Profile.{InProfile}
use Rattle.asn_values.specs.View.{datum_of}
use Rattle.asn_rules.specs.Answer.{Ruling, IsEncoding, max_octets}
use Rattle.asn_rules.specs.Codec.{Decoded}
use Rattle.asn_rules.specs.CodecLaws.{Encoded}
use Rattle.asn_rules.specs.Laws.{AreOctets, RulesLaws}
use Rattle.asn_rules.specs.declared.fault.DecodeFault.{DecodeFault}
use Rattle.asn_rules.specs.declared.fault.DecodeFault.TheVariants as decode
use Rattle.asn_rules.proofs.Answer.CodecLaws.{decodes_encoded}
use Rattle.asn_convert.specs.declared.conversion.ConvertFault.{ConvertFault}
use Rattle.asn_convert.specs.declared.conversion.ConvertFault.TheVariants as fault
use Rattle.asn_convert.specs.Converted.{Converts, Converted, GivesUnlessMemory, TurnsBack}

-- the octets of a value that was decoded are its encoding
pub decoded_encodes : (r : Ruling) (t : Shape) (o : List ℕ) (v : Value) → AreOctets o → Decoded r (Ok v) t o → Encoded r t (datum_of v) o
decoded_encodes r t o v os d = record { octets = os; encoding = subst (IsEncoding r t (datum_of v)) (take-length o) d.1.1; within = d.0 }

-- octets that are converted are decoded
never_refused : (a b : Ruling) (t : Shape) (o p : List ℕ) (why : DecodeFault) → RulesLaws a → InProfile t → Decoded a (Err why) t o → Converts a b t o p → why ≡ decode.Memory
never_refused a b t o p why la good d c = ⊎_elim (λ h. cc h.1) (λ e. cc e) (decodes_encoded a la t c.0 o (Err why) good c.1 d)

read_memory : (why : DecodeFault) (p : List ℕ) → why ≡ decode.Memory → GivesUnlessMemory (Err (fault.Read why)) p
read_memory why p e = rw e tt

-- what is told of octets that are converted is what they are converted to
pub exact : (a b : Ruling) (t : Shape) (o p : List ℕ) (answer : Result (Vec ℕ Global) ConvertFault) → RulesLaws a → RulesLaws b → InProfile t
    → Converted a b answer t o → Converts a b t o p → GivesUnlessMemory answer p
exact a b t o p (Ok q) la lb good c w =
    let same : c.0 ≡ w.0 = la.one_value t c.0 w.0 o good c.1.encoding w.1.encoding in
    lb.one_encoding t w.0 q.items p good c.2.octets w.2.octets (subst (λ d. IsEncoding b t d q.items) same c.2.encoding) w.2.encoding
exact a b t o p (Err (fault.Read why)) la lb good c w = read_memory why p (never_refused a b t o p why la good c w)
exact a b t o p (Err fault.TooLong) la lb good c w =
    let same : w.0 ≡ c.0 = la.one_value t w.0 c.0 o good w.1.encoding c.1.encoding in
    let long : max_octets < length p = c.2 p (subst (λ d. IsEncoding b t d p) same w.2.encoding) in
    absurd (omega (arith, long, w.2.within))
exact a b t o p (Err fault.Memory) la lb good c w = tt

pub turns_back : (a b : Ruling) → RulesLaws a → RulesLaws b → TurnsBack a b
turns_back a b la lb t o there back p good first is second =
    let forth : Converts a b t o p.items = subst (λ answer. Converted a b answer t o) is first in
    exact b a t p.items o back lb la good second (forth.0, forth.2, forth.1)
