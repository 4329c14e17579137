use Rattle.std.proofs.Common.{◌*◌, ◌^◌, ℤ, subst, sym, arith}
use Rattle.std.proofs.lemmas.Result.{err_from_is_err_and}
use Rattle.asn_bits.proofs.Splits.{two_pow_octets}
use Rattle.asn_bits.specs.Sets.{InSet}
use Rattle.asn_rules.specs.Languages.{Plain, Spells}
use Rattle.asn_rules.specs.Stops.{Stops}
use Rattle.asn_rules.proofs.Languages.Leads.{stops_by}
use Rattle.asn_rules.specs.NumberSets.{Admits}
use Rattle.asn_rules.specs.OffsetSets.{UnconstrainedIn}
use Rattle.asn_rules.proofs.Plain.SignedNumbers.{counts_between}
use Rattle.asn_rules.proofs.Plain.SignedReading.{signed_counts, some_count, stops_at_count, leads_to_number, some_number}
use Rattle.asn_rules.proofs.signed_reader.read_unconstrained_by_parts.Goals as goal

pub read_number-requires-clause-some : goal.read_number-requires-clause-some
read_number-requires-clause-some c =
    rw (c.from.ensures, c.from-2.ensures) (some_count c.args.set c.lowest_count.result c.highest_count.result c.requires.gap.0 c.requires.some c.highest_count.ensures.few (λ k o. (c.lowest_count.ensures.back k o, c.highest_count.ensures.back k o)))

pub returns-in_err-count-clause-stop : goal.returns-in_err-count-clause-stop
returns-in_err-count-clause-stop c R =
    let p = err_from_is_err_and c.from_residual.result c.from_residual.ensures.1 in
    let stop : Stops R (Plain (InSet 8 (λ n. Admits (signed_counts c.lowest_count.result c.highest_count.result) n))) c.args.bits.now c.in_err-count.field-0.0 = rw (c.from.ensures, c.from-2.ensures) at (c.in_err-count.ensures.stop R) in
    rw (p.1, p.2) (stops_by _ (stops_at_count c.args.set c.lowest_count.result c.highest_count.result (counts_between c.args.set c.lowest_count.result c.highest_count.result c.lowest_count.ensures.there c.highest_count.ensures.there c.highest_count.ensures.few) (λ k o. (c.lowest_count.ensures.back k o, c.highest_count.ensures.back k o)) R c.args.bits.now) stop)

pub read_number_among-requires-clause-some : goal.read_number_among-requires-clause-some
read_number_among-requires-clause-some c =
    let count = c.in_ok-count.field-0 in
    let admitted : Admits (signed_counts c.lowest_count.result c.highest_count.result) count = rw (c.from.ensures, c.from-2.ensures) at c.in_ok-count.ensures.member in
    some_number c.args.set count c.numbers_of_count.result c.numbers_of_count.ensures (counts_between c.args.set c.lowest_count.result c.highest_count.result c.lowest_count.ensures.there c.highest_count.ensures.there c.highest_count.ensures.few count admitted.0 admitted.1)

pub wide_offset_of-requires-clause-fits : goal.wide_offset_of-requires-clause-fits
wide_offset_of-requires-clause-fits c = omega (arith, c.in_ok-number.ensures.fits, two_pow_octets c.in_ok-count.field-0)

pub wide_offset_of-requires-clause-within : goal.wide_offset_of-requires-clause-within
wide_offset_of-requires-clause-within c = (c.numbers_of_count.ensures.back c.in_ok-number.number c.in_ok-number.ensures.member).member.0

pub returns-in_err-number-clause-stop : goal.returns-in_err-number-clause-stop
returns-in_err-number-clause-stop c R =
    let p = err_from_is_err_and c.from_residual-in_err-number.result c.from_residual-in_err-number.ensures.1 in
    let count = c.in_ok-count.field-0 in
    let spelt : Spells R (Plain (InSet 8 (λ n. Admits (signed_counts c.lowest_count.result c.highest_count.result) n))) count c.args.bits.now c.read_number.new.bits = rw (c.from.ensures, c.from-2.ensures) at (c.in_ok-count.ensures.done R) in
    let lead = leads_to_number c.args.set c.lowest_count.result c.highest_count.result (counts_between c.args.set c.lowest_count.result c.highest_count.result c.lowest_count.ensures.there c.highest_count.ensures.there c.highest_count.ensures.few) (λ k o. (c.lowest_count.ensures.back k o, c.highest_count.ensures.back k o)) R count c.numbers_of_count.result c.args.bits.now c.read_number.new.bits c.numbers_of_count.ensures spelt in
    rw (p.1, p.2) (stops_by _ lead.stops (c.in_err-number.ensures.stop R))

pub returns-clause-done : goal.returns-clause-done
returns-clause-done c R =
    let count = c.in_ok-count.field-0 in
    let n = c.in_ok-number.number in
    let spelt : Spells R (Plain (InSet 8 (λ n. Admits (signed_counts c.lowest_count.result c.highest_count.result) n))) count c.args.bits.now c.read_number.new.bits = rw (c.from.ensures, c.from-2.ensures) at (c.in_ok-count.ensures.done R) in
    let lead = leads_to_number c.args.set c.lowest_count.result c.highest_count.result (counts_between c.args.set c.lowest_count.result c.highest_count.result c.lowest_count.ensures.there c.highest_count.ensures.there c.highest_count.ensures.few) (λ k o. (c.lowest_count.ensures.back k o, c.highest_count.ensures.back k o)) R count c.numbers_of_count.result c.args.bits.now c.read_number.new.bits c.numbers_of_count.ensures spelt in
    subst (λ (z : ℤ). Spells R (UnconstrainedIn c.args.set) z c.args.bits.now c.read_number_among.new.bits) (sym c.wide_offset_of.ensures.same) (lead.done n c.read_number_among.new.bits (c.in_ok-number.ensures.done R))
