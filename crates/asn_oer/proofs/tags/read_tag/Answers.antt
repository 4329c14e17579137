use Rattle.std.proofs.Common.{◌+◌, min}
use Rattle.std.proofs.lemmas.Result.{err_from_is_err_and, IfOk-weaker, IfErr-weaker}
use Rattle.asn_bits.specs.Numbers.{packed}
use Rattle.asn_rules.specs.Languages.{Spells}
use Rattle.asn_rules.specs.OctetReading.{OctetsIn, from_to}
use Rattle.asn_rules.specs.Stops.{Stops}
use Rattle.asn_rules.proofs.Languages.Leads.{stops_by}
use Rattle.asn_oer.specs.Oer.{oer_fields}
use Rattle.asn_oer.proofs.Read.TagReading.{tag_stops, tag_ends, long_leads}
use Rattle.asn_oer.proofs.tags.read_tag.Goals as goal

pub returns-in_err-first-clause-stop : goal.returns-in_err-first-clause-stop
returns-in_err-first-clause-stop c =
    let p = err_from_is_err_and c.from_residual.result c.from_residual.ensures.1 in
    let us = packed c.args.units.now in
    let stop : Stops oer_fields (OctetsIn 1 (from_to 128 (127 + min c.args.count 64))) us c.in_err-first.field-0.0 = rw (c.numbers.ensures, c.min.ensures) at c.in_err-first.ensures.stop in
    rw (p.1, p.2) (stops_by _ (tag_stops c.args.count c.requires.few us) stop)

pub returns-then-first-lt191-clause-done : goal.returns-then-first-lt191-clause-done
returns-then-first-lt191-clause-done c =
    let us = packed c.args.units.now in
    let read : Spells oer_fields (OctetsIn 1 (from_to 128 (127 + min c.args.count 64))) c.in_ok-first.first us (packed c.read_octets.new.units) = rw (c.numbers.ensures, c.min.ensures) at c.in_ok-first.ensures.done in
    tag_ends c.args.count c.requires.few c.if-first-lt191.true read

pub returns-clause-done : goal.returns-clause-done
returns-clause-done c =
    let us = packed c.args.units.now in
    let read : Spells oer_fields (OctetsIn 1 (from_to 128 (127 + min c.args.count 64))) c.in_ok-first.first us (packed c.read_octets.new.units) = rw (c.numbers.ensures, c.min.ensures) at c.in_ok-first.ensures.done in
    let lead = long_leads c.args.count c.requires.few c.if-first-lt191.false read in
    IfOk-weaker c.read_long_tag.result _ _ (λ t s. lead.done t (packed c.read_long_tag.new.units) s) c.read_long_tag.ensures.done

pub returns-clause-stop : goal.returns-clause-stop
returns-clause-stop c =
    let us = packed c.args.units.now in
    let read : Spells oer_fields (OctetsIn 1 (from_to 128 (127 + min c.args.count 64))) c.in_ok-first.first us (packed c.read_octets.new.units) = rw (c.numbers.ensures, c.min.ensures) at c.in_ok-first.ensures.done in
    let lead = long_leads c.args.count c.requires.few c.if-first-lt191.false read in
    IfErr-weaker c.read_long_tag.result _ _ (λ why s. stops_by why lead.stops s) c.read_long_tag.ensures.stop
