-- The length and the octets are two numbers in bits.
use Rattle.std.proofs.Common.{◌≡◌, ◌*◌, ◌++◌, OnOk, sym, ◌∙◌, ap, subst, arith, append_assoc}
use Rattle.asn_bits.specs.Numbers.{bits, least}
use Rattle.asn_bits.specs.Lengths.{general_octets}
use Rattle.asn_bits.proofs.LeastLengths.{general_least}
use Rattle.asn_bits.proofs.sink.BitSink.push_least_octets.Goals as goal

pub returns-clause-ok : goal.returns-clause-ok
returns-clause-ok c =
    let k = c.octet_count-count.result in
    let old = c.args.self.now in
    let all : (old ++ bits 8 k) ++ bits (8 * k) c.args.n ≡ old ++ general_octets (λ u. u) (least c.args.n) =
    append_assoc old (bits 8 k) (bits (8 * k) c.args.n) ∙ ap (λ t. old ++ t) (sym (general_least c.args.n k (omega arith) c.octet_count-count.ensures.count)) in
    subst (λ t. OnOk c.append_both.result (c.append_both.new.self ≡ t)) all c.append_both.ensures.ok
