-- Octets whose units are a value, what fills it up, and nothing more are its encoding.
use Rattle.std.proofs.Common.{◌≡◌, ◌≤◌, ◌-◌, ℕ, Bool, true, false, not, List, ◌++◌, length, take, Option, None, Some, IfSome, IsSome, Ok, Err, refl, sym, ap, subst, ◌∙◌, append-nil, length-append, arith}
use Rattle.std.proofs.lemmas.List.{take_all}
use Rattle.std.specs.Prelude.{⊤}
use Rattle.asn_values.specs.Datum.{Datum}
use Rattle.asn_values.specs.Profile.{InProfile}
use Rattle.asn_values.specs.Shape.{Shape}
use Rattle.asn_values.specs.View.{datum_of}
use Rattle.asn_values.specs.declared.value.Value.{Value}
use Rattle.asn_rules.specs.Answer.{Ruling, IsEncoding, max_octets}
use Rattle.asn_rules.specs.Chunks.{Chunk, open_field, flat}
use Rattle.asn_rules.specs.Forks.{Same}
use Rattle.asn_rules.specs.Frames.{Frame}
use Rattle.asn_rules.specs.Codec.{Decoded}
use Rattle.asn_rules.specs.Languages.{Spells}
use Rattle.asn_rules.specs.Listed.{Spelt}
use Rattle.asn_rules.specs.Padding.{Fixed, AreUnits}
use Rattle.asn_rules.specs.Reading.{Wholes}
use Rattle.asn_rules.specs.Laws.{AreOctets, RulesLaws}
use Rattle.asn_rules.specs.Live.{Fielding}
use Rattle.asn_rules.proofs.Languages.Parts.{plain_spells}
use Rattle.asn_rules.proofs.Sealed.Fields.{field_spells}
use Rattle.asn_walk.specs.Coding.{Coding, OpenOf}
use Rattle.asn_walk.specs.Laws.{Laws}
use Rattle.asn_walk.proofs.OpenRead.{fill_leads, length_none}
use Rattle.asn_plan.specs.declared.budget.Budget.{Budget}
use Rattle.asn_plan.specs.declared.budget.Taken.{Taken}
use Rattle.asn_plan.specs.declared.budget.WithinFault.TheVariants as fault
use Rattle.asn_plan.specs.declared.plan.Plan.{Plan}
use Rattle.asn_plan.specs.Plans.{IsPlanOf, BuildsMessage, EndsOpen}
use Rattle.asn_plan.specs.Taken.{Takes, IsNoMore}
use Rattle.asn_plan.specs.Within.{DecodedWithin, IsTaken}

-- a test that is turned
pub turned_true : (b : Bool) → not b ≡ true → b ≡ false
turned_true true e = sym e
turned_true false e = refl

pub turned_false : (b : Bool) → not b ≡ false → b ≡ true
turned_false true e = refl
turned_false false e = sym e

-- what was read of the octets of a whole encoding
pub whole_message : (c : Coding) → Laws c → (t : Shape) → InProfile t → (o us vs ws : List ℕ)
    → us ≡ c.ruling.units o → (d : Datum) → Spells c.ruling.fielding (Spelt c.code None t) d us vs
    → (given : ℕ) → given ≡ length us → (u : ⊤)
    → Spells c.ruling.fielding (Fixed (c.padding (given - length vs))) u vs ws → length ws ≡ 0
    → IsEncoding c.ruling t d o
whole_message c laws t good o us vs ws e d h given g u k z =
    let full : Spells c.ruling.fielding (Fixed (c.padding (length us - length vs))) u vs ws = rw g at k in
    let w : Spells c.ruling.fielding (Wholes c.ruling t) d us ws = (fill_leads c laws t good d us vs h).done u ws full in
    (w.spelt.fits, sym e ∙ w.split ∙ ap (λ (l : List ℕ). flat c.ruling.fielding.spelled w.chunks ++ l) (length_none ws z) ∙ append-nil (flat c.ruling.fielding.spelled w.chunks) ∙ ap (λ (cs : List Chunk). flat c.ruling.fielding.spelled cs) w.spelt.same)

-- the same where what fills up the octets is read as that of an open type field
pub whole_here : (c : Coding) → Laws c → (t : Shape) → InProfile t → (o us vs ws : List ℕ)
    → us ≡ c.ruling.units o → (d : Datum) → Spells c.ruling.fielding (Spelt c.code None t) d us vs
    → EndsOpen c (length o) (length us - length vs) vs ws → length vs ≤ length us → IsEncoding c.ruling t d o
whole_here c laws t good o us vs ws e d h k more =
    let zs = c.padding (length us - length vs) in
    let front : Spells c.ruling.fielding (Fixed zs) tt (zs ++ ws) ws = plain_spells c.ruling.fielding {C = AreUnits zs} tt zs ws (record { same = refl }) in
    let filled : Spells c.ruling.fielding (Fixed zs) tt vs ws = subst (λ (l : List ℕ). Spells c.ruling.fielding (Fixed zs) tt l ws) (sym k.split) front in
    whole_message c laws t good o us vs ws e d h (length us) refl tt filled (omega (arith, k.all, more, ap length k.split, length-append zs ws, laws.count o, ap length e))

-- the value that was built of them is what a decoder tells
pub decoded : (r s : Ruling) → r ≡ s → (t : Shape) (v : Value) (o : List ℕ) → length o ≤ max_octets → (d : Datum)
    → datum_of v ≡ d → IsEncoding r t d o → Decoded s (Ok v) t o
decoded r s e t v o within d same h =
    let whole : IsEncoding s t (datum_of v) (take (length o) o) = rw (take_all (length o) o (omega arith), same, ← e) h in
    (within, (omega arith, whole))

-- the octets are one, whatever its value
pub checked : (r s : Ruling) → r ≡ s → (t : Shape) (o : List ℕ) → length o ≤ max_octets → (d : Datum) → IsEncoding r t d o
    → (length o ≤ max_octets) × (e : Datum) × IsEncoding s t e o
checked r s e t o within d h = (within, d, rw (← e) h)

-- and this is what it takes
pub counted : (r s : Ruling) → r ≡ s → (t : Shape) (o : List ℕ) (n : Taken) → length o ≤ max_octets → (d : Datum) → Takes n d
    → IsEncoding r t d o → IsTaken s (Some n) t o
counted r s e t o n within d takes h = (within, d, rw (← e) h, takes)

pub counted_if : (r s : Ruling) → r ≡ s → (t : Shape) → InProfile t → (p : Plan) → IsPlanOf p t → (o : List ℕ)
    → (m : Option Taken) → (IsSome m → length o ≤ max_octets)
    → IfSome m (λ n. (t : Shape) → InProfile t → IsPlanOf p t → BuildsMessage r (λ n d. Takes n d) t n o) → IsTaken s m t o
counted_if r s e t good p plan o None within some = tt
counted_if r s e t good p plan o (Some n) within some =
    let m = some t good plan in
    counted r s e t o n (within refl) m.value m.of_value m.encoding

-- the value that a decoder tells is the one that was counted
pub within_told : (r : Ruling) → RulesLaws r → (t : Shape) → InProfile t → (o : List ℕ) (b : Budget) (n : Taken)
    → IsTaken r (Some n) t o → IsNoMore n b → (v : Value) → Decoded r (Ok v) t o → DecodedWithin r b (Ok v) t o
within_told r laws t good o b n h few v told =
    let whole : IsEncoding r t (datum_of v) o = rw (take_all (length o) o (omega arith)) at told.1.1 in
    let same : h.1 ≡ datum_of v = laws.one_value t h.1 (datum_of v) o good h.2 whole in
    let takes : Takes n (datum_of v) = rw same at h.3 in
    (told, (omega (arith, takes.0, few.0), omega (arith, takes.1, few.1)))

-- the value that was counted is over the budget
pub over_told : (r : Ruling) (t : Shape) (o : List ℕ) (b : Budget) (n : Taken) → IsTaken r (Some n) t o → (IsNoMore n b → ⊥)
    → DecodedWithin r b (Err fault.OverBudget) t o
over_told r t o b n h over =
    (h.0, h.1, h.2, λ w. over (omega (arith, h.3.0, w.0), omega (arith, h.3.1, w.1)))

-- an open type field that holds the octets
same_frame : (R : Fielding) → Same (Frame R open_field) (Frame R open_field)
same_frame R = record { to = λ v cs h. h; from = λ v cs h. h }

pub field_read : (c : Coding) (t : Shape) (os us vs : List ℕ) (d : Datum)
    → Spells c.ruling.fielding (Frame c.ruling.fielding open_field) os us vs → AreOctets os → IsEncoding c.ruling t d os
    → Spells c.ruling.fielding (OpenOf c t) d us vs
field_read c t os us vs d h octets e = field_spells (same_frame c.ruling.fielding) h (record { octets = octets; encoding = e })
