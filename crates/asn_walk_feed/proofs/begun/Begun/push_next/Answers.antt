use Rattle.std.proofs.Common.{◌++◌, ℕ, List, drop, sym, ap, ◌∙◌}
use Rattle.asn_walk_feed.proofs.Bits.{first_bits}
use Rattle.asn_walk_feed.proofs.begun.Begun.push_next.Goals as goal

pub returns-clause-bits : goal.returns-clause-bits
returns-clause-bits c =
    c.push.ensures ∙ ap (λ (vs : List ℕ). c.args.self.now ++ vs) (sym (first_bits c.args.count c.in-Some.number c.args.units.now (drop c.args.count c.args.units.now) c.in-Some.ensures.some))
