use Rattle.std.proofs.Common.{sym, ◌∙◌}
use Rattle.std.proofs.lemmas.Result.{err_from_is_err_and}
use Rattle.asn_values.specs.View.{size_range_of}
use Rattle.asn_bits.specs.Numbers.{packed}
use Rattle.asn_rules.specs.Fields.{octet_fields}
use Rattle.asn_rules.specs.Languages.{Spells}
use Rattle.asn_rules.specs.OctetReading.{OctetsIn}
use Rattle.asn_rules.specs.Stops.{Stops}
use Rattle.asn_rules.proofs.Languages.Leads.{stops_by}
use Rattle.asn_oer.proofs.InPieces.BitStart.{fixed_start, unused_of, length_stops, unused_leads}
use Rattle.asn_oer.proofs.bit_items.start_bits.Goals as goal

pub returns-then-is_fixed-clause-done : goal.returns-then-is_fixed-clause-done
returns-then-is_fixed-clause-done c =
    fixed_start (size_range_of c.args.size.now) (packed c.args.units.now) (sym c.is_fixed.ensures ∙ c.if-is_fixed.true)

pub returns-in_err-length-clause-stop : goal.returns-in_err-length-clause-stop
returns-in_err-length-clause-stop c =
    let p = err_from_is_err_and c.from_residual.result c.from_residual.ensures.1 in
    let e = sym c.is_fixed.ensures ∙ c.if-is_fixed.false in
    rw (p.1, p.2) (stops_by _ (length_stops (size_range_of c.args.size.now) c.counts_of-counts.result c.counts_of-counts.ensures.are e (packed c.args.units.now)) c.in_err-length.ensures.stop)

pub returns-in_err-unused-clause-stop : goal.returns-in_err-unused-clause-stop
returns-in_err-unused-clause-stop c =
    let p = err_from_is_err_and c.from_residual-in_err-unused.result c.from_residual-in_err-unused.ensures.1 in
    let e = sym c.is_fixed.ensures ∙ c.if-is_fixed.false in
    let s = size_range_of c.args.size.now in
    let t = c.counts_of-counts.result in
    let l = c.in_ok-length.length in
    let us = packed c.args.units.now in
    let vs = packed c.read_length.new.units in
    let stop : Stops octet_fields (OctetsIn 1 (unused_of s t c.counts_of-counts.ensures.are e l)) vs c.in_err-unused.field-0.0 = rw (c.saturating_sub.ensures, c.min.ensures) at c.in_err-unused.ensures.stop in
    rw (p.1, p.2) (stops_by _ (unused_leads s t c.counts_of-counts.ensures.are e l us vs c.in_ok-length.ensures.within c.in_ok-length.ensures.done).stops stop)

pub returns-clause-done : goal.returns-clause-done
returns-clause-done c =
    let e = sym c.is_fixed.ensures ∙ c.if-is_fixed.false in
    let s = size_range_of c.args.size.now in
    let t = c.counts_of-counts.result in
    let l = c.in_ok-length.length in
    let us = packed c.args.units.now in
    let vs = packed c.read_length.new.units in
    let ws = packed c.read_octets.new.units in
    let read : Spells octet_fields (OctetsIn 1 (unused_of s t c.counts_of-counts.ensures.are e l)) c.in_ok-unused.unused vs ws = rw (c.saturating_sub.ensures, c.min.ensures) at c.in_ok-unused.ensures.done in
    (unused_leads s t c.counts_of-counts.ensures.are e l us vs c.in_ok-length.ensures.within c.in_ok-length.ensures.done).done c.in_ok-unused.unused ws read
