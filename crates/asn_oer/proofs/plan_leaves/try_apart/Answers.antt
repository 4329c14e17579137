use Rattle.std.proofs.Common.{◌+ℤ◌, pos, None, refl}
use mir.Syntax.{w128}
use mir.Val.{to_z, of_z}
use Rattle.asn_values.specs.Datum.{number}
use Rattle.asn_values.specs.Fits.{lowest_integer}
use Rattle.asn_bits.specs.Numbers.{packed}
use Rattle.asn_rules.specs.IntegerSets.{unmarked}
use Rattle.asn_rules.specs.Languages.{Spells}
use Rattle.asn_plan.specs.Bounds.{between}
use Rattle.asn_oer.specs.Oer.{oer_fields}
use Rattle.asn_oer.specs.Reading.{IntegersBut}
use Rattle.asn_oer.proofs.Read.IntegerReading.{counted_signed_leads, counted_where, given, marked_leads}
use Rattle.asn_oer.proofs.plan_leaves.try_apart.Goals as goal

pub returns-clause-some : goal.returns-clause-some
returns-clause-some c =
    let r = c.args.range.now in
    let b = between r.low r.high r.marked in
    let us = packed c.args.units.now in
    let vs = packed c.try_counted_signed.new.units in
    let all = unmarked None None in
    let z = lowest_integer +ℤ pos c.in_ok-offset.offset in
    let counted = counted_signed_leads None all c.offsets_of.result c.offsets_of.ensures.same (counted_where None None tt refl) us in
    let read : Spells oer_fields (IntegersBut None all) (number (to_z w128 (of_z w128 z))) us vs = given None all z us vs (counted.done z vs c.in_ok-offset.ensures.done) in
    rw c.at_offset.ensures ((marked_leads b us c.if-not-range.false).done (number (to_z w128 (of_z w128 z))) vs read)
