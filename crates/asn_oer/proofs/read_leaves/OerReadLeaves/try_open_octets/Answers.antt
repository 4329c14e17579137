use Rattle.std.proofs.Common.{◌≡◌, ℕ, Option, Some, None, IfSome, IsNone, List, [], ◌∷◌, ◌++◌, length, length-append, take, true, nat_lt, refl, sym, ap, ◌∙◌, subst, arith}
use Rattle.std.proofs.lemmas.Bool.{lt-ltb}
use Rattle.std.proofs.lemmas.List.{length-take-le}
use Rattle.std.proofs.lemmas.Option.{IfSome_then}
use Rattle.asn_bits.specs.Lengths.{octet_length}
use Rattle.asn_bits.specs.Numbers.{bits, packed, unpacked}
use Rattle.asn_bits.proofs.Splits.{length-unpacked}
use Rattle.asn_rules.specs.Chunks.{open_field}
use Rattle.asn_rules.specs.Fields.{spelled}
use Rattle.asn_rules.specs.Frames.{Frame, IsField}
use Rattle.asn_rules.specs.Languages.{Spells}
use Rattle.asn_rules.specs.Live.{IsContent}
use Rattle.asn_rules.specs.OctetReading.{AtOctet}
use Rattle.asn_rules.specs.ShortOctets.{ShortOctets}
use Rattle.asn_rules.proofs.Languages.Parts.{plain_spells}
use Rattle.asn_rules.proofs.Octets.Octetwise.{next_octet, packed_front}
use Rattle.asn_oer.specs.Oer.{oer_fields}
use Rattle.asn_oer.specs.Rules.{oer_ruling}
use Rattle.asn_oer.specs.Walk.{oer_coding}
use Rattle.asn_oer.proofs.read_leaves.OerReadLeaves.try_open_octets.Goals as goal

-- the length of so few octets is their count in one
short_field : {n : ℕ} {row old new : List ℕ} → ShortOctets n row old new → Spells oer_fields (Frame oer_fields open_field) (take n row) (packed old) (packed new)
short_field {n} {row} {old} {new} h =
    let os = take n row in
    let count : length os ≡ n = length-take-le n row h.within in
    let contents : IsContent oer_fields open_field os = (omega (arith, count, h.some), omega (arith, count, h.few), h.each) in
    let few : nat_lt (length os) 128 ≡ true = lt-ltb (length os) 128 (omega (arith, count, h.few)) in
    let one : octet_length (length os) ≡ length os ∷ [] = rw (few, octet_length) refl in
    let units : spelled os ≡ length os ∷ os = ap (λ us. us ++ os) one in
    let split : packed old ≡ spelled os ++ packed new =
    ap packed h.spelt ∙ next_octet n (unpacked os ++ new) (omega (arith, h.few)) ∙ ap (λ us. n ∷ us) (packed_front os new h.each)
    ∙ ap (λ k. k ∷ (os ++ packed new)) (sym count) ∙ ap (λ us. us ++ packed new) (sym units) in
    subst (λ us. Spells oer_fields (Frame oer_fields open_field) os us (packed new)) (sym split)
    (plain_spells oer_fields {C = IsField oer_fields open_field} os (spelled os) (packed new) (record { contents = contents; same = refl }))

pub returns-clause-some : goal.returns-clause-some
unfolding oer_coding oer_ruling
returns-clause-some c = IfSome_then c.try_short_octets.result c.try_short_octets.ensures.some (λ n h. short_field h)

-- whole octets are left
at_octet_after : (r : Option ℕ) (row old new : List ℕ) → IfSome r (λ n. ShortOctets n row old new) → (IsNone r → new ≡ old) → AtOctet old → AtOctet new
at_octet_after None row old new some none at = subst AtOctet (sym (none refl)) at
at_octet_after (Some n) row old new some none at =
    let eight : length (bits 8 n) ≡ 8 = refl in
    omega (arith, at, eight, ap length some.spelt, length-append (bits 8 n) (unpacked (take n row) ++ new), length-append (unpacked (take n row)) new, length-unpacked (take n row))

pub returns-clause-at_unit : goal.returns-clause-at_unit
unfolding oer_coding oer_ruling
returns-clause-at_unit c =
    at_octet_after c.try_short_octets.result c.try_short_octets.new.into c.args.units.now c.try_short_octets.new.units c.try_short_octets.ensures.some c.try_short_octets.ensures.none c.requires.at_unit
