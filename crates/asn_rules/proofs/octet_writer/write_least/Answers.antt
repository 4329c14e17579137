use Rattle.std.proofs.Common.{◌*◌, sym, arith}
use Rattle.std.proofs.lemmas.Result.{on_ok_weaker}
use Rattle.asn_bits.specs.Numbers.{bits}
use Rattle.asn_bits.proofs.LeastLengths.{general_least}
use Rattle.asn_sinks.proofs.Pushing.{pushed_same}
use Rattle.asn_rules.proofs.octet_writer.write_least.Goals as goal

pub returns : goal.returns
returns g c =
    let n = c.args.n in
    let k = c.octet_count-count.result in
    let old = c.args.sink.now in
    let mid = c.push_low_octets.new.self in
    let new = c.push_low_octets-2.new.self in
    let first : g.S.Sink.pushes old mid (bits 8 k) = rw (← c.from.ensures) c.in_ok-push_low_octets.ensures in
    on_ok_weaker c.push_low_octets-2.result
    (λ e. pushed_same g.S.Sink.pushes old new (sym (general_least n k (omega arith) c.octet_count-count.ensures.count))
    (g.met.S.Sink.pushes_joined old mid new (bits 8 k) (bits (8 * k) n) first e))
    c.push_low_octets-2.ensures
