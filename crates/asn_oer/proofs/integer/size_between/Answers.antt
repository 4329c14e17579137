use Rattle.asn_bits.proofs.Above.{kept}
use Rattle.asn_rules.proofs.Plain.IntegerSets.{low_inside, high_inside}
use Rattle.asn_oer.proofs.integer.size_between.Goals as goal

pub signed_size-requires-clause-low : goal.signed_size-requires-clause-low
signed_size-requires-clause-low c =
    let l = rw c.in-Some-Some.is-0 at (low_inside c.args.low c.args.high c.requires.of_profile) in
    rw (kept c.in-Some-Some.low l.0 l.1) l.0

pub signed_size-requires-clause-high : goal.signed_size-requires-clause-high
signed_size-requires-clause-high c =
    let h = rw c.in-Some-Some.is-1 at (high_inside c.args.low c.args.high c.requires.of_profile) in
    rw (kept c.in-Some-Some.high h.0 h.1) h.1
