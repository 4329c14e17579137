use Rattle.std.proofs.Common.{◌++◌, ℕ, map, ap, ◌∙◌}
use Rattle.asn_bits.specs.Numbers.{bits}
use Rattle.asn_bits.specs.Sink.{bit_of}
use Rattle.asn_rules.proofs.Plain.BitVectors.{next_octet_bits}
use Rattle.asn_rules.proofs.bit_vectors.push_octets.Goals as goal

pub loop-octet-preserved : goal.loop-octet-preserved
loop-octet-preserved c =
    next_octet_bits c.args.octets.now c.loop-octet.octet-index 0 c.loop-octet.into.items c.args.into.now.items c.loop-octet-test.true c.loop-octet.invariant c.push_bits.new.into.items
    (c.in_ok-push_bits.ensures ∙ ap (λ (n : ℕ). map bit_of c.loop-octet.into.items ++ bits 8 n) c.from.ensures)
