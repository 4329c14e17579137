use Rattle.std.proofs.Common.{sym, ◌∙◌}
use Rattle.std.proofs.lemmas.Result.{err_from_is_err_and}
use Rattle.asn_values.specs.View.{size_range_of}
use Rattle.asn_bits.specs.Numbers.{packed}
use Rattle.asn_rules.proofs.Languages.Leads.{stops_by}
use Rattle.asn_walk.proofs.Counts.{fixed_count, count_leads}
use Rattle.asn_walk.proofs.sizes.read_count.Goals as goal

pub returns-then-is_fixed-clause-done : goal.returns-then-is_fixed-clause-done
returns-then-is_fixed-clause-done c = fixed_count (size_range_of c.args.size.now) (packed c.args.units.now) (sym c.is_fixed.ensures ∙ c.if-is_fixed.true)

pub returns-in_err-read_length-clause-stop : goal.returns-in_err-read_length-clause-stop
returns-in_err-read_length-clause-stop c =
    let p = err_from_is_err_and c.from_residual.result c.from_residual.ensures.1 in
    let l = count_leads (size_range_of c.args.size.now) c.counts_of-counts.result (packed c.args.units.now) (sym c.is_fixed.ensures ∙ c.if-is_fixed.false) c.counts_of-counts.ensures.are in
    rw (p.1, p.2) (stops_by _ l.stops c.in_err-read_length.ensures.stop)

pub returns-clause-done : goal.returns-clause-done
returns-clause-done c =
    let l = count_leads (size_range_of c.args.size.now) c.counts_of-counts.result (packed c.args.units.now) (sym c.is_fixed.ensures ∙ c.if-is_fixed.false) c.counts_of-counts.ensures.are in
    l.done c.in_ok-read_length.field-0 (packed c.read_length.new.units) c.in_ok-read_length.ensures.done
