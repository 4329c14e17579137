use Rattle.std.proofs.Common.{◌≤◌, ◌*◌, ℕ, None, sym, subst, arith}
use Rattle.std.proofs.lemmas.Result.{err_from_is_err_and, IfOk-weaker, IfErr-weaker}
use Rattle.asn_rules.specs.Languages.{Plain, Spells}
use Rattle.asn_bits.specs.Sets.{InSet, Meets}
use Rattle.asn_rules.specs.Stops.{Stops}
use Rattle.asn_rules.proofs.Languages.Leads.{stops_by}
use Rattle.asn_rules.specs.NumberSets.{Admits}
use Rattle.asn_rules.proofs.Plain.CountedReading.{counts_of, count_there, some_count, some_number, at_most_nine, stops_at_count, leads_to_number}
use Rattle.asn_rules.proofs.whole_number_reader.read_wide_counted.Goals as goal

pub read_number-requires-clause-some : goal.read_number-requires-clause-some
read_number-requires-clause-some c =
    subst (λ (x : ℕ). Meets (λ n. Admits (record { low = 1; high = x; excluded = None }) n) 0 8) (sym c.wide_highest_count.ensures.count)
    (some_count c.args.high c.args.excluded (at_most_nine c.args.high c.requires.few) c.requires.some)

pub returns-in_err-count-clause-stop : goal.returns-in_err-count-clause-stop
returns-in_err-count-clause-stop c R =
    let p = err_from_is_err_and c.from_residual.result c.from_residual.ensures.1 in
    let stop : Stops R (Plain (InSet 8 (λ m. Admits (counts_of c.args.high c.args.excluded) m))) c.args.bits.now c.in_err-count.field-0.0 =
    rw c.wide_highest_count.ensures.count at (c.in_err-count.ensures.stop R) in
    rw (p.1, p.2) (stops_by _ (stops_at_count R c.args.high c.args.excluded c.args.bits.now (at_most_nine c.args.high c.requires.few)) stop)

pub read_wide_number-requires-clause-some : goal.read_wide_number-requires-clause-some
read_wide_number-requires-clause-some c =
    let count = c.in_ok-count.field-0 in
    let one : 1 ≤ count = c.in_ok-count.ensures.member.0 in
    let admitted : Admits (counts_of c.args.high c.args.excluded) count = rw c.wide_highest_count.ensures.count at c.in_ok-count.ensures.member in
    let has = count_there c.args.high c.args.excluded (at_most_nine c.args.high c.requires.few) count admitted in
    let meets : Meets (λ n. Admits (record { low = c.wide_least_with-low.result; high = c.min-high.result; excluded = c.args.excluded }) n) 0 (8 * count) =
    rw (c.wide_least_with-low.ensures, c.min-high.ensures) (some_number c.args.high c.args.excluded count c.wide_greatest_with.result one c.wide_greatest_with.ensures has) in
    meets

pub returns-clause-done : goal.returns-clause-done
returns-clause-done c R =
    let count = c.in_ok-count.field-0 in
    let one : 1 ≤ count = c.in_ok-count.ensures.member.0 in
    let spelt : Spells R (Plain (InSet 8 (λ n. Admits (counts_of c.args.high c.args.excluded) n))) count c.args.bits.now c.read_number.new.bits =
    rw c.wide_highest_count.ensures.count at (c.in_ok-count.ensures.done R) in
    let lead = leads_to_number R c.args.high c.args.excluded count c.wide_greatest_with.result c.args.bits.now c.read_number.new.bits (at_most_nine c.args.high c.requires.few) one c.wide_greatest_with.ensures spelt in
    IfOk-weaker c.read_wide_number.result _ _ (λ n s. lead.done n c.read_wide_number.new.bits s) (rw (c.wide_least_with-low.ensures, c.min-high.ensures) at (c.read_wide_number.ensures.done R))

pub returns-clause-stop : goal.returns-clause-stop
returns-clause-stop c R =
    let count = c.in_ok-count.field-0 in
    let one : 1 ≤ count = c.in_ok-count.ensures.member.0 in
    let spelt : Spells R (Plain (InSet 8 (λ n. Admits (counts_of c.args.high c.args.excluded) n))) count c.args.bits.now c.read_number.new.bits =
    rw c.wide_highest_count.ensures.count at (c.in_ok-count.ensures.done R) in
    let lead = leads_to_number R c.args.high c.args.excluded count c.wide_greatest_with.result c.args.bits.now c.read_number.new.bits (at_most_nine c.args.high c.requires.few) one c.wide_greatest_with.ensures spelt in
    IfErr-weaker c.read_wide_number.result _ _ (λ why s. stops_by why lead.stops s) (rw (c.wide_least_with-low.ensures, c.min-high.ensures) at (c.read_wide_number.ensures.stop R))

pub returns-clause-member : goal.returns-clause-member
returns-clause-member c =
    IfOk-weaker c.read_wide_number.result _ _ (λ n m. (omega arith, omega (arith, m.1, c.min-high.ensures), m.2)) c.read_wide_number.ensures.member
