-- The length and the octets are two numbers in bits.
use Rattle.std.proofs.Common.{◌*◌, sym, arith}
use Rattle.asn_bits.specs.Numbers.{bits}
use Rattle.asn_bits.proofs.LeastLengths.{general_least}
use Rattle.asn_sinks.proofs.Pushing.{pushed_same, on_ok}
use Rattle.asn_sinks.proofs.sink.Sink.push_least_octets.Goals as goal

pub returns : goal.returns
returns g c =
    let push = g.Self.Sink.pushes in
    let k = c.octet_count-count.result in
    let n = c.args.n in
    let e = general_least n k (omega arith) c.octet_count-count.ensures.count in
    on_ok c.push_number-2.result (λ p.
    pushed_same push c.args.self.now c.push_number-2.new.self (sym e)
    (g.met.Self.Sink.pushes_joined c.args.self.now c.push_number.new.self c.push_number-2.new.self (bits 8 k) (bits (8 * k) n) c.in_ok-push_number.ensures p)) c.push_number-2.ensures
