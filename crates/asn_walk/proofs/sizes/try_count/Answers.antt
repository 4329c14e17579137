use Rattle.std.proofs.Common.{sym, ◌∙◌}
use Rattle.asn_values.specs.View.{size_range_of}
use Rattle.asn_bits.specs.Numbers.{packed}
use Rattle.asn_walk.proofs.Counts.{fixed_count, count_leads}
use Rattle.asn_walk.proofs.sizes.try_count.Goals as goal

pub returns-then-is_fixed-clause-done : goal.returns-then-is_fixed-clause-done
returns-then-is_fixed-clause-done c = fixed_count (size_range_of c.args.size.now) (packed c.args.units.now) (sym c.is_fixed.ensures ∙ c.if-is_fixed.true)

pub returns-clause-done : goal.returns-clause-done
returns-clause-done c =
    let l = count_leads (size_range_of c.args.size.now) c.counts_of-counts.result (packed c.args.units.now) (sym c.is_fixed.ensures ∙ c.if-is_fixed.false) c.counts_of-counts.ensures.are in
    l.done c.in_ok-n.n (packed c.try_length.new.units) c.in_ok-n.ensures.done
