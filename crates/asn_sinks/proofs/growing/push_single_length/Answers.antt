-- A length that one octet does not tell.
use Rattle.std.proofs.Common.{◌≡◌, ◌++◌, ◌+◌, ◌*◌, sym, ap, ◌∙◌, append_assoc, arith}
use Rattle.asn_bits.specs.Lengths.{octet_length}
use Rattle.asn_bits.specs.Numbers.{bits, unpacked}
use Rattle.asn_bits.proofs.LengthsInOctets.{large_is}
use Rattle.asn_bits.proofs.Splits.{unpacked-octets}
use Rattle.asn_sinks.proofs.Pushing.{on_ok}
use Rattle.asn_sinks.proofs.growing.push_single_length.Goals as goal

pub returns : goal.returns
returns c =
    let n = c.args.count in
    let k = c.octet_count-octets.result in
    let old = c.args.sink.now in
    let e : unpacked (octet_length n) ≡ bits 8 (128 + k) ++ bits (8 * k) n =
    ap unpacked (large_is n k (omega (arith, c.if-count-lt128.false)) (sym c.octet_count-octets.ensures.count)) ∙ ap (λ t. bits 8 (128 + k) ++ t) (unpacked-octets k n) in
    on_ok c.push_number-2.result (λ pushed.
    pushed ∙ ap (λ t. t ++ bits (8 * k) n) c.in_ok-push_number.ensures.ok ∙ append_assoc old (bits 8 (128 + k)) (bits (8 * k) n) ∙ ap (λ t. old ++ t) (sym e)) c.push_number-2.ensures.ok
