use Rattle.std.proofs.Common.{rules, ◌≡◌, pos, ◌+ℤ◌, Some, None, true, false, sym, to_z, of_z, arith}
use Rattle.std.proofs.lemmas.Int.{ints}
use mir.Syntax.{w128}
use Rattle.std.specs.Int.RustNames.{int_le}
use Rattle.asn_values.specs.Fits.{lowest_integer}
use Rattle.asn_bits.specs.Numbers.{packed}
use Rattle.asn_bits.proofs.Above.{kept}
use Rattle.asn_rules.specs.IntegerSets.{unmarked, AreNumbersBut, AreOffsetsBut}
use Rattle.asn_rules.proofs.Plain.IntegerSets.{low_inside, high_inside}
use Rattle.asn_oer.specs.Oer.{unsigned_octets, signed_size}
use Rattle.asn_oer.proofs.Read.IntegerReading.{unsigned_leads, signed_leads, given}
use Rattle.asn_oer.proofs.integer.try_fixed.Goals as goal

pub unsigned_size-requires : goal.unsigned_size-requires
unsigned_size-requires c =
    let h = high_inside (Some c.args.low) (Some c.args.high) c.requires.of_profile in
    rw (kept c.args.high h.0 h.1) (omega (arith, ints, h.1))

pub returns-then-low-ge0-clause-some : goal.returns-then-low-ge0-clause-some
returns-then-low-ge0-clause-some c =
    let low = c.args.low in
    let high = c.args.high in
    let s = c.numbers_of-set.result in
    let us = packed c.args.units.now in
    let vs = packed c.try_octets.new.units in
    let same_low : to_z w128 (of_z w128 low) ≡ low = search rules in
    let same_high : to_z w128 (of_z w128 high) ≡ high = search rules in
    let from : int_le (pos 0) low ≡ true = rw same_low at c.if-low-ge0.true in
    let size : unsigned_octets high ≡ Some c.unsigned_size.result = rw same_high at c.unsigned_size.ensures in
    let are : AreNumbersBut None (unmarked (Some low) (Some high)) s = rw (same_low, same_high) at c.numbers_of-set.ensures in
    rw c.from.ensures (given None (unmarked (Some low) (Some high)) (pos c.in_ok-n.n) us vs ((unsigned_leads None low s from high c.unsigned_size.result size are us).done c.in_ok-n.n vs c.in_ok-n.ensures.done))

pub signed_size-requires-clause-low : goal.signed_size-requires-clause-low
signed_size-requires-clause-low c =
    let l = low_inside (Some c.args.low) (Some c.args.high) c.requires.of_profile in
    rw (kept c.args.low l.0 l.1) l.0

pub signed_size-requires-clause-high : goal.signed_size-requires-clause-high
signed_size-requires-clause-high c =
    let h = high_inside (Some c.args.low) (Some c.args.high) c.requires.of_profile in
    rw (kept c.args.high h.0 h.1) h.1

pub returns-clause-some : goal.returns-clause-some
returns-clause-some c =
    let low = c.args.low in
    let high = c.args.high in
    let s = c.offsets_of-set.result in
    let us = packed c.args.units.now in
    let vs = packed c.try_signed_octets.new.units in
    let same_low : to_z w128 (of_z w128 low) ≡ low = search rules in
    let same_high : to_z w128 (of_z w128 high) ≡ high = search rules in
    let below : int_le (pos 0) low ≡ false = rw same_low at c.if-low-ge0.false in
    let size : signed_size low high ≡ Some c.in_ok-count.count = sym (rw (same_low, same_high) at c.in_ok-count.ensures) in
    let are : AreOffsetsBut None (unmarked (Some low) (Some high)) s = rw (same_low, same_high) at c.offsets_of-set.ensures.same in
    rw c.at_offset.ensures (given None (unmarked (Some low) (Some high)) (lowest_integer +ℤ pos c.in_ok-offset.offset) us vs ((signed_leads None low high c.in_ok-count.count s below size are us).done (lowest_integer +ℤ pos c.in_ok-offset.offset) vs c.in_ok-offset.ensures.done))
