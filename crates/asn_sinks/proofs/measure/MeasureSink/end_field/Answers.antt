-- The length determinants and the content are counted.
use Rattle.std.proofs.Common.{◌≡◌, ◌+◌, ◌*◌, ◌-◌, ◌^◌, ◌/◌, min, length, length-append, sym, ap, ◌∙◌, suc, arith}
use Rattle.asn_bits.specs.Lengths.{octet_length}
use Rattle.asn_bits.specs.Numbers.{unpacked}
use Rattle.asn_bits.proofs.Splits.{length-unpacked}
use Rattle.asn_sinks.specs.LengthCounts.{general_count, single_count}
use Rattle.asn_sinks.specs.Sink.{framed}
use Rattle.asn_sinks.proofs.FieldLengths.{field_counted, length_general, length_single, some_general, some_single}
use Rattle.asn_sinks.proofs.measure.MeasureSink.end_field.Goals as goal

pub returns-in-General : goal.returns-in-General
returns-in-General c at sofar os next octets kept told =
    let n = length os in
    let long : length (framed c.args.framing os) ≡ 8 * n + general_count n =
    ap (λ f. length (framed f os)) c.in-General.is ∙ length_general (suc n) os (omega arith) in
    let sum = field_counted general_count some_general (length sofar) n c.args.self.now.bits c.args.outer.bits c.saturating_add-content.result c.saturating_add-self.result
    (told ∙ ap (λ m. min m (2 ^ 64 - 1)) (length-unpacked os)) kept
    (c.saturating_add-content.ensures ∙ ap (λ m. min (m + 8 * (c.args.self.now.bits / 8)) (2 ^ 64 - 1)) c.general_count.ensures.count) c.saturating_add-self.ensures in
    sum ∙ ap (λ m. min m (2 ^ 64 - 1)) (sym (length-append sofar (framed c.args.framing os) ∙ ap (λ m. length sofar + m) long))

pub returns-in-Single : goal.returns-in-Single
returns-in-Single c at sofar os next octets kept told =
    let n = length os in
    let long : length (framed c.args.framing os) ≡ 8 * n + single_count n =
    ap (λ f. length (framed f os)) c.in-Single.is ∙ length-append (unpacked (octet_length n)) (unpacked os) ∙ omega (arith, length_single n, length-unpacked os) in
    let sum = field_counted single_count some_single (length sofar) n c.args.self.now.bits c.args.outer.bits c.saturating_add-content-in-Single.result c.saturating_add-self-in-Single.result
    (told ∙ ap (λ m. min m (2 ^ 64 - 1)) (length-unpacked os)) kept
    (c.saturating_add-content-in-Single.ensures ∙ ap (λ m. min (m + 8 * (c.args.self.now.bits / 8)) (2 ^ 64 - 1)) c.single_count.ensures.count) c.saturating_add-self-in-Single.ensures in
    sum ∙ ap (λ m. min m (2 ^ 64 - 1)) (sym (length-append sofar (framed c.args.framing os) ∙ ap (λ m. length sofar + m) long))
