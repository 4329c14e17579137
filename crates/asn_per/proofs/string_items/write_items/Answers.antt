-- A part of the items is spelt by the same items of the string.
use Rattle.std.proofs.Common.{◌≡◌, ◌+◌, ◌-◌, List, ℕ, map, take, drop, sym, ◌∙◌, ap}
use Rattle.std.proofs.lemmas.Result.{on_ok_weaker}
use Rattle.asn_values.specs.View.{alphabet_of}
use Rattle.asn_bits.specs.Lengths.{joined}
use Rattle.asn_bits.specs.Numbers.{bits, unpacked}
use Rattle.asn_bits.specs.Sink.{bit_of}
use Rattle.asn_sinks.proofs.Pushing.{pushed_same}
use Rattle.asn_per.specs.Per.{character_bits}
use Rattle.asn_per.specs.StringItems.{item_chunks, row_bits}
use Rattle.asn_bits.proofs.ItemRows.{one_bit, bits_joined}
use Rattle.asn_per.proofs.Write.Words.{octets_joined, part_of}
use Rattle.asn_per.proofs.string_items.write_items.Goals as goal

pub returns-in-Bits : goal.returns-in-Bits
returns-in-Bits g c =
    let a = c.args in
    let xs = c.in-Bits.bits.now in
    let part = take (a.from + a.count - a.from) (drop a.from xs) in
    let same : map bit_of part ≡ row_bits (take a.count (drop a.from (item_chunks a.items))) =
    sym (bits_joined part) ∙ sym (part_of one_bit xs a.from a.count) ∙ ap (λ i. row_bits (take a.count (drop a.from (item_chunks i)))) (sym c.in-Bits.is) in
    on_ok_weaker c.push_bits.result (pushed_same g.S.Sink.pushes a.sink.now c.push_bits.new.self same) c.push_bits.ensures

pub returns-in-Octets : goal.returns-in-Octets
returns-in-Octets g c =
    let a = c.args in
    let xs = c.in-Octets.octets.now in
    let part = take (a.from + a.count - a.from) (drop a.from xs) in
    let same : unpacked part ≡ row_bits (take a.count (drop a.from (item_chunks a.items))) =
    sym (octets_joined part) ∙ sym (part_of (λ o. bits 8 o) xs a.from a.count) ∙ ap (λ i. row_bits (take a.count (drop a.from (item_chunks i)))) (sym c.in-Octets.is) in
    on_ok_weaker c.push_octets.result (pushed_same g.S.Sink.pushes a.sink.now c.push_octets.new.self same) c.push_octets.ensures

pub returns-in-Characters : goal.returns-in-Characters
returns-in-Characters g c =
    let a = c.args in
    let xs = c.in-Characters.text.now in
    let code : ℕ → List ℕ = λ x. character_bits (alphabet_of c.in-Characters.kind) x in
    let part = take (a.from + a.count - a.from) (drop a.from xs) in
    let same : joined (map code part) ≡ row_bits (take a.count (drop a.from (item_chunks a.items))) =
    sym (part_of code xs a.from a.count) ∙ ap (λ i. row_bits (take a.count (drop a.from (item_chunks i)))) (sym c.in-Characters.is) in
    on_ok_weaker c.push_characters.result (pushed_same g.S.Sink.pushes a.sink.now c.push_characters.new.sink same) c.push_characters.ensures
