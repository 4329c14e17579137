use Rattle.std.proofs.Common.{◌≡◌, ℕ, List, ◌++◌, length, take, refl, sym, ap, ◌∙◌, subst, append_assoc, arith}
use Rattle.std.proofs.lemmas.List.{length-take-le}
use Rattle.std.proofs.lemmas.Option.{IfSome_then}
use Rattle.asn_bits.specs.Numbers.{bits, unpacked}
use Rattle.asn_bits.proofs.LeastLengths.{general_short}
use Rattle.asn_rules.specs.Chunks.{open_field}
use Rattle.asn_rules.specs.Frames.{Frame, IsField}
use Rattle.asn_rules.specs.Languages.{Spells}
use Rattle.asn_rules.specs.Live.{IsContent}
use Rattle.asn_rules.specs.ShortOctets.{ShortOctets}
use Rattle.asn_rules.proofs.Languages.Parts.{plain_spells}
use Rattle.asn_per.specs.Per.{per_fields, spelled}
use Rattle.asn_per.specs.Rules.{per_ruling}
use Rattle.asn_per.specs.Walk.{per_coding}
use Rattle.asn_per.proofs.read_leaves.PerReadLeaves.try_open_octets.Goals as goal

-- the general length of so few octets is their count in 8 bits
short_field : {n : ℕ} {row old new : List ℕ} → ShortOctets n row old new → Spells per_fields (Frame per_fields open_field) (take n row) old new
short_field {n} {row} {old} {new} h =
    let os = take n row in
    let count : length os ≡ n = length-take-le n row h.within in
    let contents : IsContent per_fields open_field os = (omega (arith, count, h.some), omega (arith, count, h.few), h.each) in
    let units : bits 8 n ++ unpacked os ≡ spelled os = ap (λ k. bits 8 k ++ unpacked os) (sym count) ∙ sym (general_short os (omega (arith, count, h.few))) in
    let split : old ≡ spelled os ++ new = h.spelt ∙ sym (append_assoc (bits 8 n) (unpacked os) new) ∙ ap (λ us. us ++ new) units in
    subst (λ us. Spells per_fields (Frame per_fields open_field) os us new) (sym split)
    (plain_spells per_fields {C = IsField per_fields open_field} os (spelled os) new (record { contents = contents; same = refl }))

pub returns-clause-some : goal.returns-clause-some
unfolding per_coding per_ruling
returns-clause-some c = IfSome_then c.try_short_octets.result c.try_short_octets.ensures.some (λ n h. short_field h)
