use Rattle.std.proofs.Common.{◌≤◌, arith}
use Rattle.std.proofs.lemmas.Result.{err_from_is_err_and, IfOk-weaker, IfErr-weaker}
use Rattle.asn_bits.specs.Numbers.{octet_count, packed}
use Rattle.asn_rules.specs.Languages.{Spells}
use Rattle.asn_rules.specs.NumberSets.{Admits}
use Rattle.asn_rules.specs.Stops.{Stops}
use Rattle.asn_rules.proofs.Languages.Leads.{stops_by, stops_on, leads_on}
use Rattle.asn_rules.specs.OctetReading.{OctetsIn}
use Rattle.asn_rules.proofs.Octets.CountedOctets.{counts, some_counts, stops_at_count, some_with_count, leads_to_number, trimmed_leads}
use Rattle.asn_rules.specs.Fields.{octet_fields}
use Rattle.asn_rules.proofs.octet_reader.read_counted.Goals as goal

pub read_octets-requires-clause-some : goal.read_octets-requires-clause-some
read_octets-requires-clause-some c =
    let s = c.trimmed-set.result in
    let t = c.trimmed-set.ensures in
    let few : octet_count s.high ≤ 8 = omega (arith, c.octet_count-2.ensures.few, c.octet_count-2.ensures.count) in
    rw (c.from.ensures, c.octet_count.ensures.count, c.from-2.ensures, c.octet_count-2.ensures.count) (some_counts s t.low t.high few)

pub returns-in_err-count-clause-stop : goal.returns-in_err-count-clause-stop
returns-in_err-count-clause-stop c =
    let p = err_from_is_err_and c.from_residual.result c.from_residual.ensures.1 in
    let s = c.trimmed-set.result in
    let t = c.trimmed-set.ensures in
    let us = packed c.args.units.now in
    let few : octet_count s.high ≤ 8 = omega (arith, c.octet_count-2.ensures.few, c.octet_count-2.ensures.count) in
    let stop : Stops octet_fields (OctetsIn 1 (counts s t.low t.high few)) us c.in_err-count.field-0.0 =
    rw (c.from.ensures, c.octet_count.ensures.count, c.from-2.ensures, c.octet_count-2.ensures.count) at c.in_err-count.ensures.stop in
    rw (p.1, p.2) (stops_by _ (stops_on (stops_at_count s t.low t.high few us) (trimmed_leads c.args.set s us t).stops) stop)

pub read_octets-requires-2-clause-some : goal.read_octets-requires-2-clause-some
read_octets-requires-2-clause-some c =
    let s = c.trimmed-set.result in
    let t = c.trimmed-set.ensures in
    let few : octet_count s.high ≤ 8 = omega (arith, c.octet_count-2.ensures.few, c.octet_count-2.ensures.count) in
    let admitted : Admits (counts s t.low t.high few) c.in_ok-count.field-0 =
    rw (c.from.ensures, c.octet_count.ensures.count, c.from-2.ensures, c.octet_count-2.ensures.count) at c.in_ok-count.ensures.member in
    some_with_count s t.low t.high few c.in_ok-count.field-0 c.with_count.result c.with_count.ensures admitted

pub returns-clause-done : goal.returns-clause-done
returns-clause-done c =
    let s = c.trimmed-set.result in
    let t = c.trimmed-set.ensures in
    let us = packed c.args.units.now in
    let vs = packed c.read_octets.new.units in
    let few : octet_count s.high ≤ 8 = omega (arith, c.octet_count-2.ensures.few, c.octet_count-2.ensures.count) in
    let spelt : Spells octet_fields (OctetsIn 1 (counts s t.low t.high few)) c.in_ok-count.field-0 us vs =
    rw (c.from.ensures, c.octet_count.ensures.count, c.from-2.ensures, c.octet_count-2.ensures.count) at c.in_ok-count.ensures.done in
    let lead = leads_on (leads_to_number s t.low t.high few c.in_ok-count.field-0 c.with_count.result us vs c.with_count.ensures spelt) (trimmed_leads c.args.set s us t) in
    IfOk-weaker c.read_octets-2.result _ _ (λ n h. lead.done n (packed c.read_octets-2.new.units) h) c.read_octets-2.ensures.done

pub returns-clause-stop : goal.returns-clause-stop
returns-clause-stop c =
    let s = c.trimmed-set.result in
    let t = c.trimmed-set.ensures in
    let us = packed c.args.units.now in
    let vs = packed c.read_octets.new.units in
    let few : octet_count s.high ≤ 8 = omega (arith, c.octet_count-2.ensures.few, c.octet_count-2.ensures.count) in
    let spelt : Spells octet_fields (OctetsIn 1 (counts s t.low t.high few)) c.in_ok-count.field-0 us vs =
    rw (c.from.ensures, c.octet_count.ensures.count, c.from-2.ensures, c.octet_count-2.ensures.count) at c.in_ok-count.ensures.done in
    let lead = leads_on (leads_to_number s t.low t.high few c.in_ok-count.field-0 c.with_count.result us vs c.with_count.ensures spelt) (trimmed_leads c.args.set s us t) in
    IfErr-weaker c.read_octets-2.result _ _ (λ why h. stops_by why lead.stops h) c.read_octets-2.ensures.stop
