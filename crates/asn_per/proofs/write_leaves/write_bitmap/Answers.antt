use Rattle.std.proofs.Common.{ℕ, sym, ap}
use Rattle.asn_bits.specs.Numbers.{bits}
use Rattle.asn_sinks.proofs.Pushing.{pushed_same}
use Rattle.asn_per.proofs.write_leaves.write_bitmap.Goals as goal

pub returns-then-count-eq0 : goal.returns-then-count-eq0
returns-then-count-eq0 g c =
    pushed_same g.S.Sink.pushes c.args.sink.now c.args.sink.now (sym (ap (λ (k : ℕ). bits k c.args.bitmap) c.if-count-eq0.true)) (g.met.S.Sink.pushes_none c.args.sink.now)
