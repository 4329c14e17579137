-- The count of a list of the root, or lengths.
use Rattle.std.proofs.Common.{◌≡◌, ◌<◌, ◌+◌, ◌-◌, ℕ, Option, inl, subst, arith}
use Rattle.asn_values.specs.Fits.{max_len}
use Rattle.asn_walk.specs.Laws.{IsSizeOfProfile}
use Rattle.std.proofs.lemmas.Result.{err_from_is_err_and}
use Rattle.asn_rules.proofs.Languages.Leads.{stops_by}
use Rattle.asn_rules.proofs.Languages.Parts.{nothing_spells}
use Rattle.asn_rules.proofs.Numbers.Ranges.{at_start}
use Rattle.asn_per.specs.Per.{per_fields}
use Rattle.asn_per.proofs.Read.ListsAhead.{low_small, high_small, root_leads, root_general}
use Rattle.asn_per.proofs.InPieces.Counts.{root_within}
use Rattle.asn_per.proofs.fragments.read_root_start.Goals as goal

pub returns-in_default-clause-done : goal.returns-in_default-clause-done
returns-in_default-clause-done c = rw (c.in_default.is, c.all_of.ensures) (nothing_spells per_fields _ c.args.bits.now)

pub returns-in_default-clause-between : goal.returns-in_default-clause-between
returns-in_default-clause-between c =
    let s = c.args.size.now in
    rw c.all_of.ensures ((s.low, at_start (inl (omega arith, omega (arith, low_small s.low s.high s.ext c.requires.of_profile)))), root_within s.low max_len (omega arith))

pub returns-then-high-ge-GENERAL_FROM-clause-done : goal.returns-then-high-ge-GENERAL_FROM-clause-done
returns-then-high-ge-GENERAL_FROM-clause-done c =
    rw (c.in-Some.is, c.all_of-then-high-ge-GENERAL_FROM.ensures) (root_general c.args.size.now.low c.in-Some.high c.args.bits.now (omega (arith, c.if-high-ge-GENERAL_FROM.true)))

pub returns-then-high-ge-GENERAL_FROM-clause-between : goal.returns-then-high-ge-GENERAL_FROM-clause-between
returns-then-high-ge-GENERAL_FROM-clause-between c =
    let s = c.args.size.now in
    let bounds = high_small s.low c.in-Some.high s.ext (subst (λ (h : Option ℕ). IsSizeOfProfile (record { low = s.low; high = h; extensible = s.ext })) c.in-Some.is c.requires.of_profile) in
    rw c.all_of-then-high-ge-GENERAL_FROM.ensures ((s.low, at_start (inl (omega arith, omega (arith, bounds.0)))), root_within s.low c.in-Some.high bounds.1)

pub returns-in_err-count-clause-stop : goal.returns-in_err-count-clause-stop
returns-in_err-count-clause-stop c =
    let low = c.args.size.now.low in
    let few : c.in-Some.high < 65536 = omega (arith, c.if-high-ge-GENERAL_FROM.false) in
    let above : c.from-above.result ≡ c.in-Some.high - low = c.from-above.ensures in
    let values : c.from.result + 1 ≡ c.from-above.result + 1 = omega (arith, c.from.ensures) in
    let p = err_from_is_err_and c.from_residual.result c.from_residual.ensures.1 in
    rw (p.1, p.2, c.in-Some.is) (stops_by _ (root_leads low c.in-Some.high c.from-above.result (c.from.result + 1) c.args.bits.now few above values).stops (rw c.width.ensures.width at (c.in_err-count.ensures.stop per_fields)))

pub returns-clause-done : goal.returns-clause-done
returns-clause-done c =
    let low = c.args.size.now.low in
    let few : c.in-Some.high < 65536 = omega (arith, c.if-high-ge-GENERAL_FROM.false) in
    let above : c.from-above.result ≡ c.in-Some.high - low = c.from-above.ensures in
    let values : c.from.result + 1 ≡ c.from-above.result + 1 = omega (arith, c.from.ensures) in
    rw c.in-Some.is ((root_leads low c.in-Some.high c.from-above.result (c.from.result + 1) c.args.bits.now few above values).done c.in_ok-count.count c.read_up_to.new.bits (rw c.width.ensures.width at (c.in_ok-count.ensures.done per_fields)))
