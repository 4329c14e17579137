use Rattle.std.proofs.lemmas.Result.{err_from_is_err_and, IfOk-weaker, IfErr-weaker}
use Rattle.asn_bits.specs.Numbers.{packed}
use Rattle.asn_rules.specs.Languages.{Spells}
use Rattle.asn_rules.specs.Stops.{Stops}
use Rattle.asn_rules.proofs.Languages.Leads.{stops_by}
use Rattle.asn_rules.specs.OctetReading.{OctetsIn}
use Rattle.asn_rules.proofs.Octets.BitStrings.{unused_in, stops_at_length, stops_at_unused, bits_lead}
use Rattle.asn_rules.specs.Fields.{octet_fields}
use Rattle.asn_rules.proofs.octet_strings.read_variable.Goals as goal

pub returns-in_err-length-clause-stop : goal.returns-in_err-length-clause-stop
returns-in_err-length-clause-stop c =
    let p = err_from_is_err_and c.from_residual.result c.from_residual.ensures.1 in
    rw (p.1, p.2) (stops_by _ (stops_at_length c.args.low c.args.high c.requires.ordered c.requires.few (packed c.args.units.now)) c.in_err-length.ensures.stop)

pub returns-in_err-unused-clause-stop : goal.returns-in_err-unused-clause-stop
returns-in_err-unused-clause-stop c =
    let p = err_from_is_err_and c.from_residual-in_err-unused.result c.from_residual-in_err-unused.ensures.1 in
    let l = c.in_ok-length.length in
    let us = packed c.args.units.now in
    let vs = packed c.read_length.new.units in
    let stop : Stops octet_fields (OctetsIn 1 (unused_in c.args.low c.args.high c.requires.ordered c.requires.few l)) vs c.in_err-unused.field-0.0 = rw (c.saturating_sub.ensures, c.min.ensures) at c.in_err-unused.ensures.stop in
    rw (p.1, p.2) (stops_by _ (stops_at_unused c.args.low c.args.high c.requires.ordered c.requires.few l us vs c.in_ok-length.ensures.done) stop)

pub returns-clause-done : goal.returns-clause-done
returns-clause-done c =
    let l = c.in_ok-length.length in
    let u = c.in_ok-unused.unused in
    let us = packed c.args.units.now in
    let vs = packed c.read_length.new.units in
    let ws = packed c.read_octets.new.units in
    let read : Spells octet_fields (OctetsIn 1 (unused_in c.args.low c.args.high c.requires.ordered c.requires.few l)) u vs ws = rw (c.saturating_sub.ensures, c.min.ensures) at c.in_ok-unused.ensures.done in
    let lead = bits_lead c.args.low c.args.high c.requires.ordered c.requires.few l u us vs ws c.in_ok-length.ensures.done read in
    IfOk-weaker c.read_packed.result _ _ (λ bs h. lead.done bs.items (packed c.read_packed.new.units) h) c.read_packed.ensures.done

pub returns-clause-stop : goal.returns-clause-stop
returns-clause-stop c =
    let l = c.in_ok-length.length in
    let u = c.in_ok-unused.unused in
    let us = packed c.args.units.now in
    let vs = packed c.read_length.new.units in
    let ws = packed c.read_octets.new.units in
    let read : Spells octet_fields (OctetsIn 1 (unused_in c.args.low c.args.high c.requires.ordered c.requires.few l)) u vs ws = rw (c.saturating_sub.ensures, c.min.ensures) at c.in_ok-unused.ensures.done in
    let lead = bits_lead c.args.low c.args.high c.requires.ordered c.requires.few l u us vs ws c.in_ok-length.ensures.done read in
    IfErr-weaker c.read_packed.result _ _ (λ why h. stops_by why lead.stops h) c.read_packed.ensures.stop
