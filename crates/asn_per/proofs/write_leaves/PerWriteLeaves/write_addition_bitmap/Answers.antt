use Rattle.std.proofs.Common.{ℕ, ◌++◌, sym, ap}
use Rattle.std.proofs.lemmas.Result.{on_ok_weaker}
use Rattle.asn_bits.specs.Numbers.{bits}
use Rattle.asn_bits.proofs.Octets.{length-digits}
use Rattle.asn_sinks.proofs.Pushing.{pushed_same}
use Rattle.asn_per.specs.Per.{small_length}
use Rattle.asn_per.specs.Walk.{per_coding}
use Rattle.asn_per.proofs.write_leaves.PerWriteLeaves.write_addition_bitmap.Goals as goal

pub returns : goal.returns
unfolding per_coding
returns g c =
    let old = c.args.sink.now in
    let mid = c.write_small_length.new.sink in
    let new = c.push_number.new.self in
    let bitmap = bits c.args.count c.args.bitmap in
    on_ok_weaker c.push_number.result
    (λ e. pushed_same g.S.Sink.pushes old new (ap (λ (k : ℕ). small_length k ++ bitmap) (sym (length-digits 2 c.args.count c.args.bitmap)))
    (g.met.S.Sink.pushes_joined old mid new (small_length c.args.count) bitmap c.in_ok-write_small_length.ensures e))
    c.push_number.ensures
