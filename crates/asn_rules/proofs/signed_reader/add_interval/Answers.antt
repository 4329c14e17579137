use Rattle.std.proofs.Common.{◌+◌, ◌-◌, inl, inr, ⊎_elim, arith}
use Rattle.asn_bits.proofs.Unions.{among_there, among_kept, among_added}
use Rattle.asn_rules.proofs.signed_reader.add_interval.Goals as goal

pub returns-then-first-end-clause-there : goal.returns-then-first-end-clause-there
returns-then-first-end-clause-there c n h =
    ⊎_elim inl (λ b. inr (omega (arith, b.0, c.requires.low), omega (arith, b.1, c.requires.low, c.if-first-end.true)))
    (among_there c.args.numbers (c.args.first + c.args.up - 9223372036854775808) (c.args.end - 1 + c.args.up - 9223372036854775808) n (rw c.and.ensures at h))

pub returns-then-first-end-clause-kept : goal.returns-then-first-end-clause-kept
returns-then-first-end-clause-kept c n h =
    rw c.and.ensures (among_kept c.args.numbers (c.args.first + c.args.up - 9223372036854775808) (c.args.end - 1 + c.args.up - 9223372036854775808) n h)

pub returns-then-first-end-clause-added : goal.returns-then-first-end-clause-added
returns-then-first-end-clause-added c n l h =
    rw c.and.ensures (among_added c.args.numbers (c.args.first + c.args.up - 9223372036854775808) (c.args.end - 1 + c.args.up - 9223372036854775808) n (omega (arith, l, c.requires.low)) (omega (arith, h, c.requires.low, c.if-first-end.true)))
