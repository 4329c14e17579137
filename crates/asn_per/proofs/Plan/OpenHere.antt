-- An open type field that is read where it stands, by PER.
use Rattle.std.proofs.Common.{◌≡◌, ◌≤◌, ◌<◌, ◌+◌, ◌-◌, ◌*◌, ◌%◌, ◌++◌, ℕ, zero, suc, replicate, List, length, None, refl, sym, ap, subst, ◌∙◌, append_assoc, length-append, arith}
use Rattle.asn_values.specs.Datum.{Datum}
use Rattle.asn_values.specs.Fits.{Fits}
use Rattle.asn_values.specs.Shape.{Shape}
use Rattle.asn_bits.specs.Numbers.{bits, unpacked}
use Rattle.asn_bits.proofs.LeastLengths.{general_short}
use Rattle.asn_bits.proofs.Packing.{bits_zero}
use Rattle.asn_bits.proofs.Splits.{length-unpacked}
use Rattle.asn_rules.specs.Chunks.{open_field, flat}
use Rattle.asn_rules.specs.Frames.{Frame, IsField}
use Rattle.asn_rules.specs.Languages.{Spells}
use Rattle.asn_rules.specs.Laws.{AreOctets}
use Rattle.asn_rules.specs.Listed.{Spelt}
use Rattle.asn_rules.specs.Live.{IsContent}
use Rattle.asn_rules.proofs.Languages.Parts.{plain_spells}
use Rattle.asn_walk.specs.Coding.{OpenOf}
use Rattle.asn_plan.specs.Plans.{EndsOpen}
use Rattle.asn_plan.proofs.Messages.{field_read}
use Rattle.asn_per.specs.Per.{per, per_fields, spelled, filling, complete}
use Rattle.asn_per.specs.Rules.{per_ruling}
use Rattle.asn_per.specs.Walk.{per_coding}
use Rattle.asn_per.proofs.Encodings.Complete.{filled_is, complete_octets, complete_full}
use Rattle.asn_per.proofs.Encodings.Spelt.{per_spelt}

-- what fills up a value that has bits
pub filling_zeros : (n k : ℕ) → 0 < n → k ≡ (8 - n % 8) % 8 → filling n ≡ bits k 0
filling_zeros zero k h e = absurd (omega (arith, h))
filling_zeros (suc n) k h e = ap (λ (i : ℕ). replicate i 0) (sym e) ∙ sym (bits_zero k)

-- the count of the octets in 8 bits, the value, and what fills up the octets
pub open_here : (t : Shape) (d : Datum) (n : ℕ) (us vs ws xs : List ℕ) → us ≡ bits 8 n ++ vs → 1 ≤ n → n < 128
    → Spells per_fields (Spelt per None t) d vs ws → EndsOpen per_coding n (length vs - length ws) ws xs
    → Spells per_fields (OpenOf per_coding t) d us xs
unfolding per_coding per_ruling
open_here t d n us vs ws xs e some few h k =
    let f : Fits t d = h.spelt.fits.0 in
    let cs = per t d in
    let F = flat spelled cs in
    let zs = filling (length F) in
    let os = complete cs in
    let split : vs ≡ F ++ ws = h.split ∙ ap (λ c. flat spelled c ++ ws) h.spelt.same in
    let taken : length vs - length ws ≡ length F = omega (arith, ap length split, length-append F ws) in
    let full : unpacked os ≡ F ++ zs = complete_full cs (per_spelt t d f).bits in
    let octets : AreOctets os = complete_octets cs (per_spelt t d f).bits in
    let filled : ws ≡ zs ++ xs = k.split ∙ ap (λ i. filling i ++ xs) taken in
    let all : length F + length zs ≡ 8 * n = sym (ap (λ i. i + length (filling i)) taken) ∙ k.all in
    let count : length os ≡ n = omega (arith, all, ap length full, length-append F zs, length-unpacked os) in
    let contents : IsContent per_fields open_field os = (omega (arith, count, some), omega (arith, count, few), octets) in
    let units : bits 8 n ++ unpacked os ≡ spelled os = ap (λ i. bits 8 i ++ unpacked os) (sym count) ∙ sym (general_short os (omega (arith, count, few))) in
    let whole : vs ≡ unpacked os ++ xs = split ∙ ap (λ l. F ++ l) filled ∙ sym (append_assoc F zs xs) ∙ ap (λ l. l ++ xs) (sym full) in
    let front : us ≡ spelled os ++ xs = e ∙ ap (λ l. bits 8 n ++ l) whole ∙ sym (append_assoc (bits 8 n) (unpacked os) xs) ∙ ap (λ l. l ++ xs) units in
    let frame : Spells per_fields (Frame per_fields open_field) os us xs = subst (λ l. Spells per_fields (Frame per_fields open_field) os l xs) (sym front) (plain_spells per_fields {C = IsField per_fields open_field} os (spelled os) xs (record { contents = contents; same = refl })) in
    field_read per_coding t os us xs d frame octets (f, full ∙ sym (filled_is cs))
