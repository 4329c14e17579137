-- The length and the octets are two numbers in bits.
use Rattle.std.proofs.Common.{◌≡◌, ◌++◌, OnOk, sym, ◌∙◌, ap, subst, append_assoc}
use Rattle.asn_bits.specs.Numbers.{bits, least_signed}
use Rattle.asn_bits.specs.Lengths.{general_octets}
use Rattle.asn_bits.proofs.Above.{kept}
use Rattle.asn_bits.proofs.sink.BitSink.push_least_signed_octets.Goals as goal

pub returns-clause-ok : goal.returns-clause-ok
returns-clause-ok c =
    let p = c.least_signed_parts-front_bits.result in
    let z = kept c.args.z c.requires.low c.requires.high in
    let old = c.args.self.now in
    let e : general_octets (λ u. u) (least_signed c.args.z) ≡ bits p.0 p.1 ++ bits p.2 p.3 = rw z at c.least_signed_parts-front_bits.ensures.same in
    let all : (old ++ bits p.0 p.1) ++ bits p.2 p.3 ≡ old ++ general_octets (λ u. u) (least_signed c.args.z) =
    append_assoc old (bits p.0 p.1) (bits p.2 p.3) ∙ ap (λ t. old ++ t) (sym e) in
    subst (λ t. OnOk c.append_both.result (c.append_both.new.self ≡ t)) all c.append_both.ensures.ok
