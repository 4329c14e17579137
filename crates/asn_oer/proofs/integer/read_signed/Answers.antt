use Rattle.std.proofs.Common.{◌+ℤ◌, ⊎_elim, pos, sym}
use Rattle.std.proofs.lemmas.Result.{err_from_is_err_and}
use Rattle.asn_values.specs.Fits.{lowest_integer}
use Rattle.asn_bits.specs.Numbers.{packed}
use Rattle.asn_rules.proofs.Languages.Leads.{stops_by}
use Rattle.asn_rules.specs.IntegerSets.{unmarked}
use Rattle.asn_oer.proofs.Read.IntegerReading.{counted_signed_leads, counted_where, given, no_size, sized_leads, sized_some}
use Rattle.asn_oer.proofs.integer.read_signed.Goals as goal

pub read_signed_octets-requires-clause-some : goal.read_signed_octets-requires-clause-some
read_signed_octets-requires-clause-some c =
    sized_some c.args.excluded c.args.low c.args.high c.in-Some.count c.offsets_of-set.result c.requires.below_zero (sym c.in-Some.ensures) c.offsets_of-set.ensures.same c.requires.some

pub returns-in_err-offset-in-Some-clause-stop : goal.returns-in_err-offset-in-Some-clause-stop
returns-in_err-offset-in-Some-clause-stop c =
    let p = err_from_is_err_and c.from_residual.result c.from_residual.ensures.1 in
    let lead = sized_leads c.args.excluded c.args.low c.args.high c.in-Some.count c.offsets_of-set.result c.requires.below_zero (sym c.in-Some.ensures) c.offsets_of-set.ensures.same (packed c.args.units.now) in
    rw (p.1, p.2) (stops_by _ lead.stops c.in_err-offset-in-Some.ensures.stop)

pub returns-in_ok-offset-in-Some-clause-done : goal.returns-in_ok-offset-in-Some-clause-done
returns-in_ok-offset-in-Some-clause-done c =
    let us = packed c.args.units.now in
    let vs = packed c.read_signed_octets.new.units in
    let z = lowest_integer +ℤ pos c.in_ok-offset-in-Some.offset in
    let lead = sized_leads c.args.excluded c.args.low c.args.high c.in-Some.count c.offsets_of-set.result c.requires.below_zero (sym c.in-Some.ensures) c.offsets_of-set.ensures.same us in
    rw c.at_offset.ensures (given c.args.excluded (unmarked c.args.low c.args.high) z us vs (lead.done z vs c.in_ok-offset-in-Some.ensures.done))

pub read_wide_counted_signed-requires-clause-gap : goal.read_wide_counted_signed-requires-clause-gap
read_wide_counted_signed-requires-clause-gap c =
    ⊎_elim (λ missing. c.offsets_of-set.ensures.gap missing) (λ far. c.offsets_of-set.ensures.far far) (no_size c.args.low c.args.high c.requires.of_profile (sym c.in-None.ensures))

pub returns-in_err-offset-in-None-clause-stop : goal.returns-in_err-offset-in-None-clause-stop
returns-in_err-offset-in-None-clause-stop c =
    let p = err_from_is_err_and c.from_residual-in_err-offset-in-None.result c.from_residual-in_err-offset-in-None.ensures.1 in
    let form = counted_where c.args.low c.args.high c.requires.below_zero (sym c.in-None.ensures) in
    let lead = counted_signed_leads c.args.excluded (unmarked c.args.low c.args.high) c.offsets_of-set.result c.offsets_of-set.ensures.same form (packed c.args.units.now) in
    rw (p.1, p.2) (stops_by _ lead.stops c.in_err-offset-in-None.ensures.stop)

pub returns-in_ok-offset-in-None-clause-done : goal.returns-in_ok-offset-in-None-clause-done
returns-in_ok-offset-in-None-clause-done c =
    let us = packed c.args.units.now in
    let vs = packed c.read_wide_counted_signed.new.units in
    let z = lowest_integer +ℤ pos c.in_ok-offset-in-None.offset in
    let form = counted_where c.args.low c.args.high c.requires.below_zero (sym c.in-None.ensures) in
    let lead = counted_signed_leads c.args.excluded (unmarked c.args.low c.args.high) c.offsets_of-set.result c.offsets_of-set.ensures.same form us in
    rw c.at_wide_offset.ensures (given c.args.excluded (unmarked c.args.low c.args.high) z us vs (lead.done z vs c.in_ok-offset-in-None.ensures.done))
