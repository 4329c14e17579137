use Rattle.std.proofs.lemmas.Result.{err_from_is_err_and, IfOk-weaker, IfErr-weaker}
use Rattle.asn_values.specs.View.{size_range_of}
use Rattle.asn_bits.specs.Numbers.{packed}
use Rattle.asn_rules.proofs.Languages.Leads.{leads_on, stops_by, stops_on}
use Rattle.asn_rules.proofs.Numbers.OctetLengths.{one_octet_inhabited}
use Rattle.asn_oer.proofs.Read.SizeCounts.{stops_at_count, items_lead, octets_lead, octets_size}
use Rattle.asn_oer.proofs.string_reader.read_octet_string.Goals as goal

pub read_count-requires-clause-of_profile : goal.read_count-requires-clause-of_profile
read_count-requires-clause-of_profile c = octets_size (size_range_of c.args.size.now) c.requires.of_profile

pub returns-in_err-count-clause-stop : goal.returns-in_err-count-clause-stop
returns-in_err-count-clause-stop c =
    let p = err_from_is_err_and c.from_residual.result c.from_residual.ensures.1 in
    let s = size_range_of c.args.size.now in
    let us = packed c.args.units.now in
    rw (p.1, p.2) (stops_by _ (stops_on (stops_at_count one_octet_inhabited s us) (octets_lead s us c.requires.of_profile).stops) c.in_err-count.ensures.stop)

pub returns-clause-done : goal.returns-clause-done
returns-clause-done c =
    let s = size_range_of c.args.size.now in
    let us = packed c.args.units.now in
    let l = leads_on (items_lead one_octet_inhabited s c.in_ok-count.count us (packed c.read_count.new.units) c.in_ok-count.ensures.done) (octets_lead s us c.requires.of_profile) in
    IfOk-weaker c.read_row.result _ _ (λ os h. l.done os.items (packed c.read_row.new.units) h) c.read_row.ensures.done

pub returns-clause-stop : goal.returns-clause-stop
returns-clause-stop c =
    let s = size_range_of c.args.size.now in
    let us = packed c.args.units.now in
    let l = leads_on (items_lead one_octet_inhabited s c.in_ok-count.count us (packed c.read_count.new.units) c.in_ok-count.ensures.done) (octets_lead s us c.requires.of_profile) in
    IfErr-weaker c.read_row.result _ _ (λ why h. stops_by why l.stops h) c.read_row.ensures.stop
