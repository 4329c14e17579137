-- The count and the octets are two numbers in bits.
use Rattle.std.proofs.Common.{sym}
use Rattle.std.proofs.lemmas.Result.{on_ok_weaker}
use Rattle.asn_bits.specs.Numbers.{bits}
use Rattle.asn_sinks.proofs.Pushing.{pushed_same}
use Rattle.asn_rules.proofs.octet_writer.write_wide_least.Goals as goal

pub returns : goal.returns
returns g c =
    let p = c.least_parts-front_bits.result in
    let old = c.args.sink.now in
    let mid = c.push_number.new.self in
    let new = c.push_number-2.new.self in
    on_ok_weaker c.push_number-2.result
    (λ e. pushed_same g.S.Sink.pushes old new (sym c.least_parts-front_bits.ensures.same)
    (g.met.S.Sink.pushes_joined old mid new (bits p.0 p.1) (bits p.2 p.3) c.in_ok-push_number.ensures e))
    c.push_number-2.ensures
