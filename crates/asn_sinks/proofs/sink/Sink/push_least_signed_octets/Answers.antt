-- The length and the octets are two numbers in bits.
use Rattle.std.proofs.Common.{◌≡◌, ◌++◌, sym}
use Rattle.asn_bits.specs.Numbers.{bits, least_signed}
use Rattle.asn_bits.specs.Lengths.{general_octets}
use Rattle.asn_bits.proofs.Above.{kept}
use Rattle.asn_sinks.proofs.Pushing.{pushed_same, on_ok}
use Rattle.asn_sinks.proofs.sink.Sink.push_least_signed_octets.Goals as goal

pub returns : goal.returns
returns g c =
    let push = g.Self.Sink.pushes in
    let p = c.least_signed_parts-front_bits.result in
    let z = kept c.args.z c.requires.low c.requires.high in
    let e : general_octets (λ u. u) (least_signed c.args.z) ≡ bits p.0 p.1 ++ bits p.2 p.3 = rw z at c.least_signed_parts-front_bits.ensures.same in
    on_ok c.push_number-2.result (λ q.
    pushed_same push c.args.self.now c.push_number-2.new.self (sym e)
    (g.met.Self.Sink.pushes_joined c.args.self.now c.push_number.new.self c.push_number-2.new.self (bits p.0 p.1) (bits p.2 p.3) c.in_ok-push_number.ensures q)) c.push_number-2.ensures
