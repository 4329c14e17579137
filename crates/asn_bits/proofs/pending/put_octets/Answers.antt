-- Where the bits fill octets the new ones follow; else they are shifted.
use Rattle.std.proofs.Common.{◌≡◌, ◌++◌, ◌%◌, ap, ◌∙◌, arith}
use Rattle.asn_bits.specs.Numbers.{unpacked}
use Rattle.asn_bits.proofs.Moving.{pushed_shifted}
use Rattle.asn_bits.proofs.Packing.{octets_out, whole_after}
use Rattle.asn_bits.proofs.pending.put_octets.Goals as goal

pub returns-then-left-ne0-clause-bits : goal.returns-then-left-ne0-clause-bits
returns-then-left-ne0-clause-bits c =
    let a = c.args in
    let mid = c.push_low.new.bytes.items in
    pushed_shifted mid c.push_shifted.new.bytes.items a.octets.now (a.count % 8) a.pending c.push_shifted.result c.push_shifted.ensures.shifted
    ∙ ap (λ t. t ++ unpacked a.octets.now) (octets_out a.into.now.items mid a.count a.pending c.push_low.ensures.items)

pub returns-clause-bits : goal.returns-clause-bits
returns-clause-bits c =
    let a = c.args in
    let mid = c.push_low.new.bytes.items in
    let whole : a.count % 8 ≡ 0 = omega arith in
    let added : c.push_all.new.into.items ≡ mid ++ a.octets.now = c.push_all.ensures.items in
    whole_after mid c.push_all.new.into.items a.octets.now (a.count % 8) a.pending whole added
    ∙ ap (λ t. t ++ unpacked a.octets.now) (octets_out a.into.now.items mid a.count a.pending c.push_low.ensures.items)
