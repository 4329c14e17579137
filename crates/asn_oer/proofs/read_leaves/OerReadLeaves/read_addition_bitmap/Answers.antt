use Rattle.std.proofs.Common.{◌≡◌, suc, arith}
use Rattle.std.proofs.lemmas.Result.{err_from_is_err_and}
use Rattle.asn_bits.specs.Numbers.{packed}
use Rattle.asn_rules.specs.Languages.{Spells}
use Rattle.asn_rules.specs.Stops.{Stops}
use Rattle.asn_rules.proofs.Languages.Leads.{stops_by}
use Rattle.asn_rules.specs.Filled.{filled_octets, unused_bits}
use Rattle.asn_rules.specs.OctetReading.{OctetsIn, from_to}
use Rattle.asn_oer.specs.Oer.{oer_fields}
use Rattle.asn_oer.proofs.Read.PreambleReading.{two, stops_at_length, stops_at_unused, presences_lead}
use Rattle.asn_oer.specs.Rules.{oer_ruling}
use Rattle.asn_oer.specs.Walk.{oer_coding}
use Rattle.asn_oer.proofs.read_leaves.OerReadLeaves.read_addition_bitmap.Goals as goal

pub returns-in_err-read_length-clause-stop : goal.returns-in_err-read_length-clause-stop
unfolding oer_coding oer_ruling
returns-in_err-read_length-clause-stop c =
    let p = err_from_is_err_and c.from_residual.result c.from_residual.ensures.1 in
    let n = c.args.count in
    let l = c.from-length.result in
    let is : l ≡ suc (filled_octets n) = omega (arith, c.from-length.ensures) in
    rw (p.1, p.2) (stops_by _ (stops_at_length n l c.requires.some c.requires.few is (packed c.args.units.now)) c.in_err-read_length.ensures.stop)

pub returns-in_err-read_octets-clause-stop : goal.returns-in_err-read_octets-clause-stop
unfolding oer_coding oer_ruling
returns-in_err-read_octets-clause-stop c =
    let p = err_from_is_err_and c.from_residual-in_err-read_octets.result c.from_residual-in_err-read_octets.ensures.1 in
    let n = c.args.count in
    let l = c.from-length.result in
    let is : l ≡ suc (filled_octets n) = omega (arith, c.from-length.ensures) in
    let vs = packed c.read_length.new.units in
    let stop : Stops oer_fields (OctetsIn 1 (from_to (unused_bits n) (unused_bits n))) vs c.in_err-read_octets.field-0.0 = rw (c.numbers.ensures, c.from-unused.ensures) at c.in_err-read_octets.ensures.stop in
    rw (p.1, p.2) (stops_by _ (stops_at_unused n l c.requires.some c.requires.few is c.in_ok-read_length.field-0 (packed c.args.units.now) vs c.in_ok-read_length.ensures.done) stop)

pub read_filled-requires-clause-some : goal.read_filled-requires-clause-some
unfolding oer_coding oer_ruling
read_filled-requires-clause-some c =
    let is : c.from-length.result ≡ suc (filled_octets c.args.count) = omega (arith, c.from-length.ensures) in
    two c.args.count c.from-length.result c.requires.some c.requires.few is

pub returns-in_err-bitmap-clause-stop : goal.returns-in_err-bitmap-clause-stop
unfolding oer_coding oer_ruling
returns-in_err-bitmap-clause-stop c =
    let p = err_from_is_err_and c.from_residual-in_err-bitmap.result c.from_residual-in_err-bitmap.ensures.1 in
    let n = c.args.count in
    let l = c.from-length.result in
    let is : l ≡ suc (filled_octets n) = omega (arith, c.from-length.ensures) in
    let vs = packed c.read_length.new.units in
    let ws = packed c.read_octets.new.units in
    let unused : Spells oer_fields (OctetsIn 1 (from_to (unused_bits n) (unused_bits n))) c.in_ok-read_octets.field-0 vs ws = rw (c.numbers.ensures, c.from-unused.ensures) at c.in_ok-read_octets.ensures.done in
    rw (p.1, p.2) (stops_by _ (presences_lead n l c.requires.some c.requires.few is c.in_ok-read_length.field-0 c.in_ok-read_octets.field-0 (packed c.args.units.now) vs ws c.in_ok-read_length.ensures.done unused).stops c.in_err-bitmap.ensures.stop)

pub returns-clause-done : goal.returns-clause-done
unfolding oer_coding oer_ruling
returns-clause-done c =
    let n = c.args.count in
    let l = c.from-length.result in
    let is : l ≡ suc (filled_octets n) = omega (arith, c.from-length.ensures) in
    let vs = packed c.read_length.new.units in
    let ws = packed c.read_octets.new.units in
    let unused : Spells oer_fields (OctetsIn 1 (from_to (unused_bits n) (unused_bits n))) c.in_ok-read_octets.field-0 vs ws = rw (c.numbers.ensures, c.from-unused.ensures) at c.in_ok-read_octets.ensures.done in
    (presences_lead n l c.requires.some c.requires.few is c.in_ok-read_length.field-0 c.in_ok-read_octets.field-0 (packed c.args.units.now) vs ws c.in_ok-read_length.ensures.done unused).done (c.in_ok-bitmap.field-0-0, c.in_ok-bitmap.bitmap) (packed c.read_filled.new.units) c.in_ok-bitmap.ensures.done
