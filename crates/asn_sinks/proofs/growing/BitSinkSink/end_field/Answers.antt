-- The octets of the content come after what was there.
use Rattle.std.proofs.Common.{◌≡◌, ◌<◌, ◌%◌, ◌++◌, ℕ, ◌-◌, zero, suc, List, [], ◌∷◌, sym, ap, refl, subst, ◌∙◌, append_assoc, append-nil, arith, length, get_or, replicate}
use Rattle.std.specs.List.{AllByRecursion}
use Rattle.asn_bits.specs.Lengths.{general_octets, octet_length}
use Rattle.asn_bits.specs.Numbers.{unpacked, packed, padding}
use Rattle.asn_bits.proofs.Packing.{packed-unpacked}
use Rattle.asn_bits.proofs.Splits.{length-unpacked}
use Rattle.asn_sinks.specs.Sink.{framed}
use Rattle.asn_sinks.proofs.Pushing.{on_ok}
use Rattle.asn_sinks.proofs.growing.BitSinkSink.end_field.Goals as goal

each : (os : List ℕ) → AllByRecursion (λ o. o < 256) os → (i d : ℕ) → i < length os → get_or os i d < 256
each [] h i d l = absurd (omega (arith, l))
each (o ∷ os) h zero d l = h.0
each (o ∷ os) h (suc i) d l = each os h.1 i d (omega (arith, l))

nothing_to_fill : (os : List ℕ) → padding (length (unpacked os)) ≡ []
nothing_to_fill os =
    let none : (8 - length (unpacked os) % 8) % 8 ≡ 0 = omega (arith, length-unpacked os) in
    ap (λ (k : ℕ). replicate k 0) none

-- octets in bits need no filling
padded_are : (content padded os : List ℕ) → content ≡ unpacked os → padded ≡ content ++ padding (length content) → padded ≡ unpacked os
padded_are content padded os e p =
    p ∙ ap (λ c. c ++ padding (length c)) e ∙ ap (λ t. unpacked os ++ t) (nothing_to_fill os) ∙ append-nil (unpacked os)

octets_are : (content padded items os : List ℕ) → AllByRecursion (λ o. o < 256) os → content ≡ unpacked os → padded ≡ content ++ padding (length content)
    → packed padded ≡ items → items ≡ os
octets_are content padded items os h e p q = sym q ∙ ap packed (padded_are content padded os e p) ∙ packed-unpacked os (each os h)

pub returns-in-General : goal.returns-in-General
returns-in-General c = on_ok c.push_filled.result (λ adds at sofar os next octets kept told.
    let content : c.replace-content.result ≡ unpacked os = c.replace-content.ensures.value ∙ told in
    let outer : c.replace-content.new.dest ≡ sofar = c.replace-content.ensures.after ∙ kept in
    let padded : c.pad.new.self ≡ unpacked os = padded_are c.replace-content.result c.pad.new.self os content c.in_ok-pad.ensures.ok in
    let framing = subst (λ f. framed f os ≡ general_octets (λ u. u) os) (sym c.in-General.is) refl in
    adds os octets padded ∙ ap (λ t. t ++ general_octets (λ u. u) os) outer ∙ ap (λ t. sofar ++ t) (sym framing)) c.push_filled.ensures

pub returns-in_ok-push_single_length-in-Single : goal.returns-in_ok-push_single_length-in-Single
returns-in_ok-push_single_length-in-Single c = on_ok c.push_row.result (λ pushed at sofar os next octets kept told.
    let dest = c.replace-content.new.dest in
    let content : c.replace-content.result ≡ unpacked os = c.replace-content.ensures.value ∙ told in
    let outer : dest ≡ sofar = c.replace-content.ensures.after ∙ kept in
    let items : c.into_octets-octets.result.items ≡ os =
    octets_are c.replace-content.result c.pad.new.self c.into_octets-octets.result.items os octets content c.in_ok-pad.ensures.ok c.into_octets-octets.ensures.packed in
    let slice : c.as_slice.result.now ≡ os = c.as_slice.ensures.value ∙ items in
    let count : c.len.result ≡ length os = c.len.ensures ∙ sym c.as_slice.ensures.len ∙ ap length slice in
    let told_length : c.push_single_length.new.sink ≡ dest ++ unpacked (octet_length (length os)) =
    c.in_ok-push_single_length-in-Single.ensures ∙ ap (λ n. dest ++ unpacked (octet_length n)) count in
    let framing = subst (λ f. framed f os ≡ unpacked (octet_length (length os)) ++ unpacked os) (sym c.in-Single.is) refl in
    pushed ∙ ap (λ (xs : List ℕ). c.push_single_length.new.sink ++ unpacked xs) slice ∙ ap (λ t. t ++ unpacked os) told_length
    ∙ append_assoc dest (unpacked (octet_length (length os))) (unpacked os) ∙ ap (λ (t : List ℕ). t ++ (unpacked (octet_length (length os)) ++ unpacked os)) outer
    ∙ ap (λ t. sofar ++ t) (sym framing)) c.push_row.ensures.ok
