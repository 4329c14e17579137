-- The interval follows those that count.
use Rattle.std.proofs.Common.{◌≡◌, ◌+◌, ◌<◌, ◌++◌, ◌∷◌, [], length, take, slice_set, ap, sym, subst, arith}
use Rattle.std.proofs.lemmas.List.{length-take-le, take_more_set}
use Rattle.asn_bits.specs.Sets.{AreOrdered}
use Rattle.asn_bits.proofs.Unions.{ordered_more}
use Rattle.asn_bits.proofs.intervals.Intervals.and.Goals as goal

pub invariant_of-self : goal.invariant_of-self
invariant_of-self c =
    let s = c.self.inside in
    let v : take s.count s.ends ≡ c.args.self = c.self.view_is in
    let size : length s.ends ≡ 4 = omega (arith, c.self.ranges) in
    let few : s.count < 4 = omega (arith, c.requires.room, ap length v, length-take-le s.count s.ends (omega (arith, c.self.invariant.0))) in
    let more : take (s.count + 1) (slice_set s.ends s.count (c.args.low, c.args.high)) ≡ take s.count s.ends ++ (c.args.low, c.args.high) ∷ [] = take_more_set s.ends s.count (c.args.low, c.args.high) (omega arith) in
    (omega arith, subst AreOrdered (sym more) (ordered_more (take s.count s.ends) c.args.low c.args.high c.self.invariant.1 c.requires.ordered))
