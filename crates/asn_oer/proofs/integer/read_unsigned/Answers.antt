use Rattle.std.proofs.Common.{rules, ◌≡◌, pos, Some, None, to_z, of_z, arith}
use Rattle.std.proofs.lemmas.Int.{ints}
use Rattle.std.proofs.lemmas.Result.{err_from_is_err_and}
use mir.Syntax.{w128}
use Rattle.asn_values.specs.Datum.{number}
use Rattle.asn_bits.specs.Numbers.{packed}
use Rattle.asn_bits.proofs.Above.{kept, test_of_le}
use Rattle.asn_rules.specs.Languages.{Spells}
use Rattle.asn_rules.proofs.Languages.Leads.{stops_by}
use Rattle.asn_rules.specs.IntegerSets.{unmarked, AreNumbersBut}
use Rattle.asn_rules.proofs.Plain.IntegerSets.{high_inside}
use Rattle.asn_oer.specs.Oer.{unsigned_octets, oer_fields}
use Rattle.asn_oer.specs.Reading.{IntegersBut}
use Rattle.asn_oer.proofs.Read.IntegerReading.{unsigned_leads, unsigned_meets, counted_leads, given}
use Rattle.asn_oer.proofs.integer.read_unsigned.Goals as goal
use Rattle.asn_oer.proofs.integer.read_unsigned.Goals.{in-Some+in_ok-n-in-Some, in-None+in_ok-n-in-None}

pub unsigned_size-requires : goal.unsigned_size-requires
unsigned_size-requires c =
    let h = rw c.in-Some.is at (high_inside (Some c.args.low) c.args.high c.requires.of_profile) in
    rw (kept c.in-Some.high h.0 h.1) (omega (arith, ints, h.1))

pub read_octets-requires-clause-some : goal.read_octets-requires-clause-some
read_octets-requires-clause-some c =
    let low = c.args.low in
    let high = c.in-Some.high in
    let s = c.numbers_of-set.result in
    let same_low : to_z w128 (of_z w128 low) ≡ low = search rules in
    let same_high : to_z w128 (of_z w128 high) ≡ high = search rules in
    let size : unsigned_octets high ≡ Some c.unsigned_size.result = rw same_high at c.unsigned_size.ensures in
    let are : AreNumbersBut c.args.excluded (unmarked (Some low) (Some high)) s = rw (same_low, c.in-Some.is) at c.numbers_of-set.ensures in
    unsigned_meets c.args.excluded low s (test_of_le (pos 0) low c.requires.from_zero) high c.unsigned_size.result size are (rw c.in-Some.is at c.requires.some)

pub returns-in_err-n-in-Some-clause-stop : goal.returns-in_err-n-in-Some-clause-stop
returns-in_err-n-in-Some-clause-stop c =
    let low = c.args.low in
    let high = c.in-Some.high in
    let s = c.numbers_of-set.result in
    let same_low : to_z w128 (of_z w128 low) ≡ low = search rules in
    let same_high : to_z w128 (of_z w128 high) ≡ high = search rules in
    let size : unsigned_octets high ≡ Some c.unsigned_size.result = rw same_high at c.unsigned_size.ensures in
    let are : AreNumbersBut c.args.excluded (unmarked (Some low) (Some high)) s = rw (same_low, c.in-Some.is) at c.numbers_of-set.ensures in
    let p = err_from_is_err_and c.from_residual.result c.from_residual.ensures.1 in
    let lead = unsigned_leads c.args.excluded low s (test_of_le (pos 0) low c.requires.from_zero) high c.unsigned_size.result size are (packed c.args.units.now) in
    rw (p.1, p.2, c.in-Some.is) (stops_by _ lead.stops c.in_err-n-in-Some.ensures.stop)

pub returns-in_err-n-in-None-clause-stop : goal.returns-in_err-n-in-None-clause-stop
returns-in_err-n-in-None-clause-stop c =
    let low = c.args.low in
    let s = c.numbers_of-set.result in
    let same_low : to_z w128 (of_z w128 low) ≡ low = search rules in
    let are : AreNumbersBut c.args.excluded (unmarked (Some low) None) s = rw (same_low, c.in-None.is) at c.numbers_of-set.ensures in
    let p = err_from_is_err_and c.from_residual-in_err-n-in-None.result c.from_residual-in_err-n-in-None.ensures.1 in
    let lead = counted_leads c.args.excluded low s (test_of_le (pos 0) low c.requires.from_zero) are (packed c.args.units.now) in
    rw (p.1, p.2, c.in-None.is) (stops_by _ lead.stops c.in_err-n-in-None.ensures.stop)

pub returns-clause-done : goal.returns-clause-done
returns-clause-done c =
    let low = c.args.low in
    let s = c.numbers_of-set.result in
    let us = packed c.args.units.now in
    let from = test_of_le (pos 0) low c.requires.from_zero in
    let same_low : to_z w128 (of_z w128 low) ≡ low = search rules in
    let spelt : Spells oer_fields (IntegersBut c.args.excluded (unmarked (Some low) c.args.high)) (number (pos c.match-high.n)) us (packed c.match-high.units) = elim c.match-high.branch [
      | in-Some+in_ok-n-in-Some w ↦
          let high = w.in-Some.high in
          let same_high : to_z w128 (of_z w128 high) ≡ high = search rules in
          let size : unsigned_octets high ≡ Some w.unsigned_size.result = rw same_high at w.unsigned_size.ensures in
          let are : AreNumbersBut c.args.excluded (unmarked (Some low) (Some high)) s = rw (same_low, w.in-Some.is) at c.numbers_of-set.ensures in
          rw (w.units-is, w.n-is, w.in-Some.is) ((unsigned_leads c.args.excluded low s from high w.unsigned_size.result size are us).done w.in_ok-n-in-Some.n (packed w.read_octets.new.units) w.in_ok-n-in-Some.ensures.done)
      | in-None+in_ok-n-in-None w ↦
          let are : AreNumbersBut c.args.excluded (unmarked (Some low) None) s = rw (same_low, w.in-None.is) at c.numbers_of-set.ensures in
          rw (w.units-is, w.n-is, w.in-None.is) ((counted_leads c.args.excluded low s from are us).done w.in_ok-n-in-None.n (packed w.read_counted.new.units) w.in_ok-n-in-None.ensures.done)
    ] in
    rw c.from.ensures (given c.args.excluded (unmarked (Some low) c.args.high) (pos c.match-high.n) us (packed c.match-high.units) spelt)
