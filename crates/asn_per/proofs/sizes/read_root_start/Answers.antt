use Rattle.std.proofs.Common.{◌≡◌, ◌<◌, ◌+◌, ◌-◌, arith}
use Rattle.std.proofs.lemmas.Result.{err_from_is_err_and}
use Rattle.asn_rules.proofs.Languages.Leads.{stops_by}
use Rattle.asn_rules.proofs.Languages.Parts.{nothing_spells}
use Rattle.asn_per.specs.Per.{per_fields}
use Rattle.asn_per.proofs.Read.ListsAhead.{root_leads, root_general}
use Rattle.asn_per.proofs.sizes.read_root_start.Goals as goal

pub returns-in_default-clause-done : goal.returns-in_default-clause-done
returns-in_default-clause-done c = rw (c.in_default.is, c.new.ensures) (nothing_spells per_fields _ c.args.bits.now)

pub returns-then-high-ge-GENERAL_FROM-clause-done : goal.returns-then-high-ge-GENERAL_FROM-clause-done
returns-then-high-ge-GENERAL_FROM-clause-done c =
    rw (c.in-Some.is, c.new-then-high-ge-GENERAL_FROM.ensures) (root_general c.args.size.now.low c.in-Some.high c.args.bits.now (omega (arith, c.if-high-ge-GENERAL_FROM.true)))

pub returns-in_err-count-clause-stop : goal.returns-in_err-count-clause-stop
returns-in_err-count-clause-stop c =
    let low = c.args.size.now.low in
    let few : c.in-Some.high < 65536 = omega (arith, c.if-high-ge-GENERAL_FROM.false) in
    let above : c.from-above.result ≡ c.in-Some.high - low = c.from-above.ensures in
    let values : c.from.result + 1 ≡ c.from-above.result + 1 = omega (arith, c.from.ensures) in
    let p = err_from_is_err_and c.from_residual.result c.from_residual.ensures.1 in
    rw (p.1, p.2, c.in-Some.is) (stops_by _ (root_leads low c.in-Some.high c.from-above.result (c.from.result + 1) c.args.bits.now few above values).stops (rw c.width.ensures.width at (c.in_err-count.ensures.stop per_fields)))

pub returns-clause-done : goal.returns-clause-done
returns-clause-done c =
    let low = c.args.size.now.low in
    let few : c.in-Some.high < 65536 = omega (arith, c.if-high-ge-GENERAL_FROM.false) in
    let above : c.from-above.result ≡ c.in-Some.high - low = c.from-above.ensures in
    let values : c.from.result + 1 ≡ c.from-above.result + 1 = omega (arith, c.from.ensures) in
    rw c.in-Some.is ((root_leads low c.in-Some.high c.from-above.result (c.from.result + 1) c.args.bits.now few above values).done c.in_ok-count.count c.read_up_to.new.bits (rw c.width.ensures.width at (c.in_ok-count.ensures.done per_fields)))
