-- An open type field that is read where it stands, by OER.
use Rattle.std.proofs.Common.{◌≡◌, ◌<◌, ◌-◌, ◌++◌, ◌∷◌, ℕ, List, length, None, refl, sym, ap, subst, ◌∙◌, length-append, arith}
use Rattle.asn_values.specs.Datum.{Datum}
use Rattle.asn_values.specs.Fits.{Fits}
use Rattle.asn_values.specs.Shape.{Shape}
use Rattle.asn_bits.specs.Lengths.{octet_length}
use Rattle.asn_bits.proofs.LengthsInOctets.{small_is}
use Rattle.asn_rules.specs.Chunks.{open_field, flat}
use Rattle.asn_rules.specs.Fields.{spelled}
use Rattle.asn_rules.specs.Frames.{Frame, IsField}
use Rattle.asn_rules.specs.Languages.{Spells}
use Rattle.asn_rules.specs.Laws.{AreOctets}
use Rattle.asn_rules.specs.Listed.{Spelt}
use Rattle.asn_rules.specs.Live.{IsContent}
use Rattle.asn_rules.proofs.Languages.Parts.{plain_spells}
use Rattle.asn_walk.specs.Coding.{OpenOf}
use Rattle.asn_plan.specs.Plans.{EndsOpen}
use Rattle.asn_plan.proofs.Messages.{field_read}
use Rattle.asn_oer.specs.Oer.{oer, oer_fields}
use Rattle.asn_oer.specs.Rules.{oer_ruling}
use Rattle.asn_oer.specs.Walk.{oer_coding}

-- the length, and as many octets of the value
pub open_octets : (t : Shape) (d : Datum) (n : ℕ) (us vs ws xs : List ℕ) → us ≡ n ∷ vs → n < 128 → AreOctets (flat spelled (oer t d))
    → Spells oer_fields (Spelt oer None t) d vs ws → EndsOpen oer_coding n (length vs - length ws) ws xs
    → Spells oer_fields (OpenOf oer_coding t) d us xs
unfolding oer_coding oer_ruling
open_octets t d n us vs ws xs e few octets h k =
    let f : Fits t d = h.spelt.fits.0 in
    let os = flat spelled (oer t d) in
    let split : vs ≡ os ++ ws = h.split ∙ ap (λ c. flat spelled c ++ ws) h.spelt.same in
    let count : length os ≡ n = omega (arith, ap length split, length-append os ws, k.all) in
    let contents : IsContent oer_fields open_field os = (omega arith, omega (arith, count, few), octets) in
    let units : n ∷ os ≡ spelled os = ap (λ (l : List ℕ). l ++ os) (sym (small_is n few) ∙ ap (λ (i : ℕ). octet_length i) (sym count)) in
    let front : us ≡ spelled os ++ xs = e ∙ ap (λ (l : List ℕ). n ∷ l) (split ∙ ap (λ (l : List ℕ). os ++ l) k.split) ∙ ap (λ (l : List ℕ). l ++ xs) units in
    let frame : Spells oer_fields (Frame oer_fields open_field) os us xs = subst (λ l. Spells oer_fields (Frame oer_fields open_field) os l xs) (sym front) (plain_spells oer_fields {C = IsField oer_fields open_field} os (spelled os) xs (record { contents = contents; same = refl })) in
    field_read oer_coding t os us xs d frame octets (f, refl)
