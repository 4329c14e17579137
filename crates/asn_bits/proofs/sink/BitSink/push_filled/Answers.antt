-- Few octets have one octet of length, and then their bits.
use Rattle.std.proofs.Common.{◌≡◌, ◌<◌, ◌++◌, ℕ, List, length, append_assoc, sym, ap, ◌∙◌, arith}
use Rattle.std.proofs.lemmas.Result.{on_ok_weaker}
use Rattle.asn_bits.specs.Lengths.{general_octets}
use Rattle.asn_bits.specs.Numbers.{bits, packed}
use Rattle.asn_bits.proofs.LeastLengths.{general_short}
use Rattle.asn_bits.proofs.Packing.{packed-unpacked}
use Rattle.asn_bits.proofs.RowsAdded.{each_octet}
use Rattle.asn_bits.proofs.Splits.{length-unpacked}
use Rattle.asn_bits.proofs.sink.BitSink.push_filled.Goals as goal

pub returns-then-count-ge128 : goal.returns-then-count-ge128
returns-then-count-ge128 c =
    on_ok_weaker c.push_general_octets.result
    (λ e os octets content.
    let items : c.as_slice.result.now ≡ os =
    c.as_slice.ensures.value ∙ sym c.into_octets-octets.ensures.packed ∙ ap packed content ∙ packed-unpacked os (each_octet os octets) in
    e ∙ ap (λ (xs : List ℕ). c.args.self.now ++ general_octets (λ u. u) xs) items)
    c.push_general_octets.ensures.ok

pub returns : goal.returns
returns c =
    on_ok_weaker c.push_all_of.result
    (λ e os octets content.
    let count : c.octet_count-count.result ≡ length os = omega (arith, c.octet_count-count.ensures, ap length content, length-unpacked os) in
    let few : length os < 128 = omega (arith, count, c.if-count-ge128.false) in
    e ∙ ap (λ t. t ++ c.args.content) c.in_ok-append.ensures.ok
    ∙ append_assoc c.args.self.now (bits 8 c.octet_count-count.result) c.args.content
    ∙ ap (λ (n : ℕ). c.args.self.now ++ (bits 8 n ++ c.args.content)) count
    ∙ ap (λ (t : List ℕ). c.args.self.now ++ (bits 8 (length os) ++ t)) content
    ∙ ap (λ t. c.args.self.now ++ t) (sym (general_short os few)))
    c.push_all_of.ensures
