-- The front bits, and 64 after them.
use Rattle.std.proofs.Common.{◌-◌, ◌/◌, ◌%◌, ◌^◌, sym, arith}
use Rattle.std.proofs.lemmas.Result.{on_ok_weaker}
use Rattle.asn_bits.specs.Numbers.{bits}
use Rattle.asn_bits.proofs.Wide.{wide_split, wide_front, narrow}
use Rattle.asn_sinks.proofs.Pushing.{pushed_same}
use Rattle.asn_rules.proofs.octet_writer.write_wide_number.Goals as goal

pub push_number-requires-2-clause-fits : goal.push_number-requires-2-clause-fits
push_number-requires-2-clause-fits g c = wide_front c.args.k c.args.n (omega (arith, c.if-k-le64.false)) c.requires.fits

pub returns : goal.returns
returns g c =
    let k = c.args.k in
    let n = c.args.n in
    let old = c.args.sink.now in
    let mid = c.push_number-2.new.self in
    let new = c.push_number-3.new.self in
    on_ok_weaker c.push_number-3.result
    (λ e. pushed_same g.S.Sink.pushes old new (sym (wide_split k n (omega (arith, c.if-k-le64.false))))
    (g.met.S.Sink.pushes_joined old mid new (bits (k - 64) (n / 2 ^ 64)) (bits 64 (n % 2 ^ 64)) c.in_ok-push_number.ensures e))
    c.push_number-3.ensures
