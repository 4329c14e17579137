use Rattle.std.proofs.lemmas.Result.{err_from_is_err_and}
use Rattle.asn_values.specs.Fits.{FitsLength}
use Rattle.asn_values.specs.View.{size_range_of}
use Rattle.asn_bits.specs.Numbers.{packed}
use Rattle.asn_rules.proofs.Languages.Leads.{leads_map, leads_on, stops_by}
use Rattle.asn_walk.specs.Ahead.{items}
use Rattle.asn_oer.specs.Constructed.{Quantity}
use Rattle.asn_oer.specs.Oer.{oer_fields}
use Rattle.asn_oer.specs.Rules.{oer_ruling}
use Rattle.asn_oer.specs.Walk.{oer_coding}
use Rattle.asn_oer.proofs.Read.SizeCounts.{quantity_leads}
use Rattle.asn_oer.proofs.read_leaves.OerReadLeaves.start_list.Goals as goal

pub returns-in_err-count-clause-stop : goal.returns-in_err-count-clause-stop
unfolding oer_coding oer_ruling
returns-in_err-count-clause-stop c =
    let p = err_from_is_err_and c.from_residual.result c.from_residual.ensures.1 in
    let s = size_range_of c.args.size.now in
    let us = packed c.args.units.now in
    let lead = leads_on (quantity_leads s c.counts_of.result us c.counts_of.ensures.are) (leads_map oer_fields items (Quantity (FitsLength s)) us) in
    rw (p.1, p.2) (stops_by _ lead.stops c.in_err-count.ensures.stop)

pub returns-clause-done : goal.returns-clause-done
unfolding oer_coding oer_ruling
returns-clause-done c =
    let s = size_range_of c.args.size.now in
    let us = packed c.args.units.now in
    let lead = leads_on (quantity_leads s c.counts_of.result us c.counts_of.ensures.are) (leads_map oer_fields items (Quantity (FitsLength s)) us) in
    lead.done c.in_ok-count.count (packed c.read_counted.new.units) c.in_ok-count.ensures.done
