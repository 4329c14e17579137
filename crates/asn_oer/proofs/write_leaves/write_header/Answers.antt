use Rattle.std.proofs.Common.{◌+◌, ◌/◌, ◌∙◌, [], refl, arith}
use Rattle.std.proofs.lemmas.Result.{on_ok_weaker}
use Rattle.asn_bits.specs.Lengths.{octet_length}
use Rattle.asn_bits.specs.Numbers.{bits, unpacked}
use Rattle.asn_sinks.proofs.Pushing.{pushed_same}
use Rattle.asn_oer.proofs.Write.WrittenOctets.{header_bits}
use Rattle.asn_oer.proofs.write_leaves.write_header.Goals as goal

pub returns : goal.returns
returns g c =
    let n = c.args.count in
    let l = 1 + (n + 7) / 8 in
    let u = c.from.result in
    let old = c.args.sink.now in
    let mid = c.write_length.new.sink in
    let new = c.push_low_octets.new.self in
    on_ok_weaker c.push_low_octets.result
    (λ e. pushed_same g.S.Sink.pushes old new (header_bits [] (unpacked (octet_length l)) n l u (omega arith) (c.from.ensures ∙ c.unused_bits.ensures) refl)
    (g.met.S.Sink.pushes_joined old mid new (unpacked (octet_length l)) (bits 8 u) c.in_ok-write_length.ensures e))
    c.push_low_octets.ensures
