use Rattle.std.proofs.lemmas.Result.{err_from_is_err_and, IfOk-weaker, IfErr-weaker}
use Rattle.asn_bits.specs.Numbers.{packed}
use Rattle.asn_bits.specs.Sets.{Between}
use Rattle.asn_rules.specs.Fields.{OctetLength}
use Rattle.asn_rules.specs.Languages.{Spells}
use Rattle.asn_rules.specs.Stops.{Stops}
use Rattle.asn_rules.proofs.Languages.Leads.{stops_by}
use Rattle.asn_rules.proofs.Octets.OctetReading.{stops_at_length, row_leads}
use Rattle.asn_rules.specs.Fields.{octet_fields}
use Rattle.asn_rules.proofs.octet_length_reader.read_octets_with_length.Goals as goal

pub returns-in_err-count-clause-stop : goal.returns-in_err-count-clause-stop
returns-in_err-count-clause-stop c =
    let p = err_from_is_err_and c.from_residual.result c.from_residual.ensures.1 in
    let us = packed c.args.units.now in
    let stop : Stops octet_fields (OctetLength (Between c.args.low c.args.high)) us c.in_err-count.field-0.0 = c.in_err-count.ensures.stop in
    rw (p.1, p.2) (stops_by _ (stops_at_length (Between c.args.low c.args.high) us) stop)

pub returns-clause-done : goal.returns-clause-done
returns-clause-done c =
    let us = packed c.args.units.now in
    let vs = packed c.read_length.new.units in
    let read : Spells octet_fields (OctetLength (Between c.args.low c.args.high)) c.in_ok-count.count us vs = c.in_ok-count.ensures.done in
    IfOk-weaker c.read_row.result _ _ (λ os h. (row_leads (Between c.args.low c.args.high) c.in_ok-count.count us vs read).done os.items (packed c.read_row.new.units) h) c.read_row.ensures.done

pub returns-clause-stop : goal.returns-clause-stop
returns-clause-stop c =
    let us = packed c.args.units.now in
    let vs = packed c.read_length.new.units in
    let read : Spells octet_fields (OctetLength (Between c.args.low c.args.high)) c.in_ok-count.count us vs = c.in_ok-count.ensures.done in
    IfErr-weaker c.read_row.result _ _ (λ why h. stops_by why (row_leads (Between c.args.low c.args.high) c.in_ok-count.count us vs read).stops h) c.read_row.ensures.stop
