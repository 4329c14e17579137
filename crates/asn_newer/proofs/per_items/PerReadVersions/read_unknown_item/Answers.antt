use Rattle.std.proofs.Common.{◌≡◌, ◌≤◌, ◌∷◌, ◌++◌, ◌∙◌, ℕ, ℤ, length-append, refl, ap, subst, arith}
use Rattle.std.proofs.lemmas.Result.{err_from_is_err_and}
use Rattle.asn_rules.specs.Languages.{Spells}
use Rattle.asn_values.specs.Profile.{most_item_additions}
use Rattle.asn_values.specs.Shape.{marked_labels}
use Rattle.asn_values.specs.View.{labels_seen}
use Rattle.asn_walk.proofs.ItemNumbers.{few_items}
use Rattle.asn_newer.specs.Rules.{per_loose, IsIndexToCome}
use Rattle.asn_newer.specs.Walking.{UnknownItem}
use Rattle.asn_per.specs.Walk.{per_coding}
use Rattle.asn_newer.proofs.Walk.Halts.{halts_none, halts_short, halts_on}
use Rattle.asn_newer.proofs.Walk.PerItems.{small_at, index_read, no_index, none_empty, none_root, none_to_come, none_on, none_else, few_labels, index_told}
use Rattle.asn_newer.proofs.per_items.PerReadVersions.read_unknown_item.Goals as goal

pub overflow_sub-root : goal.overflow_sub-root
overflow_sub-root c =
    let root = labels_seen c.args.root.now in
    let more = labels_seen c.args.additions.now in
    omega (arith, few_items root (marked_labels more) c.requires.of_profile, length-append root more, few_labels c.args.root.now)

pub returns-in_default-clause-stop : goal.returns-in_default-clause-stop
unfolding per_coding per_loose
returns-in_default-clause-stop c =
    let root = labels_seen c.args.root.now in
    let more = labels_seen c.args.additions.now in
    halts_short per_coding (UnknownItem per_loose root more) c.args.units.now (no_index root more c.args.units.now (none_empty root more c.args.units.now (c.in_default.ensures.none.0 refl)))

pub returns-then-bit-eq0-clause-stop : goal.returns-then-bit-eq0-clause-stop
unfolding per_coding per_loose
returns-then-bit-eq0-clause-stop c =
    let root = labels_seen c.args.root.now in
    let more = labels_seen c.args.additions.now in
    halts_none per_coding (UnknownItem per_loose root more) c.args.units.now _
    (λ after. no_index root more (c.args.units.now ++ after) (none_root root more c.args.units.now c.next.new.self c.in-Some.bit c.if-bit-eq0.true c.in-Some.ensures.some after))

-- the root has all items that the profile allows
pub returns-then-most-eq0-clause-stop : goal.returns-then-most-eq0-clause-stop
unfolding per_coding per_loose
returns-then-most-eq0-clause-stop c =
    let root = labels_seen c.args.root.now in
    let more = labels_seen c.args.additions.now in
    halts_none per_coding (UnknownItem per_loose root more) c.args.units.now _
    (λ after. no_index root more (c.args.units.now ++ after) (none_to_come root more (c.args.units.now ++ after) (omega (arith, few_labels c.args.root.now, c.min-most.ensures, c.if-most-eq0.true))))

pub returns-in_err-index-clause-stop : goal.returns-in_err-index-clause-stop
unfolding per_coding per_loose
returns-in_err-index-clause-stop c =
    let root = labels_seen c.args.root.now in
    let more = labels_seen c.args.additions.now in
    let one : c.in-Some.bit ≡ 1 = omega (arith, c.in-Some.ensures.bit, c.if-bit-eq0.false) in
    let few : c.min-most.result ≤ most_item_additions = omega (arith, c.min-most.ensures) in
    let p = err_from_is_err_and c.from_residual.result c.from_residual.ensures.1 in
    rw (p.1, p.2) (halts_on _ (none_on root more c.args.units.now c.next.new.self c.in-Some.bit one c.in-Some.ensures.some c.min-most.result few
    (λ n k. omega (arith, k.few, k.room, few_labels c.args.root.now, c.min-most.ensures))) c.in_err-index.ensures.stop)

pub returns-then-index-additions-clause-stop : goal.returns-then-index-additions-clause-stop
unfolding per_coding per_loose
returns-then-index-additions-clause-stop c =
    let root = labels_seen c.args.root.now in
    let more = labels_seen c.args.additions.now in
    let one : c.in-Some.bit ≡ 1 = omega (arith, c.in-Some.ensures.bit, c.if-bit-eq0.false) in
    let few : c.min-most.result ≤ most_item_additions = omega (arith, c.min-most.ensures) in
    let at = small_at c.min-most.result few c.in_ok-index.index c.next.new.self c.read_index_below.new.bits c.in_ok-index.ensures.done in
    halts_none per_coding (UnknownItem per_loose root more) c.args.units.now _
    (λ after. no_index root more (c.args.units.now ++ after)
    (none_else root more c.args.units.now c.next.new.self c.in-Some.bit one c.in-Some.ensures.some c.in_ok-index.index c.read_index_below.new.bits at.1
    (λ k. omega (arith, k.past, few_labels c.args.additions.now, c.if-index-additions.true)) after))

pub returns-clause-at_unit : goal.returns-clause-at_unit
unfolding per_coding per_loose
returns-clause-at_unit c = tt

pub returns-clause-done : goal.returns-clause-done
unfolding per_coding per_loose
returns-clause-done c =
    let root = labels_seen c.args.root.now in
    let more = labels_seen c.args.additions.now in
    let one : c.in-Some.bit ≡ 1 = omega (arith, c.in-Some.ensures.bit, c.if-bit-eq0.false) in
    let e : c.args.units.now ≡ 1 ∷ c.next.new.self = c.in-Some.ensures.some ∙ ap (λ (b : ℕ). b ∷ c.next.new.self) one in
    let few : c.min-most.result ≤ most_item_additions = omega (arith, c.min-most.ensures) in
    let at = small_at c.min-most.result few c.in_ok-index.index c.next.new.self c.read_index_below.new.bits c.in_ok-index.ensures.done in
    let to_come : IsIndexToCome root more c.in_ok-index.index = record {
      past = omega (arith, few_labels c.args.additions.now, c.if-index-additions.false);
      few = omega (arith, at.0, few);
      room = omega (arith, at.0, few_labels c.args.root.now, c.min-most.ensures);
    } in
    subst (λ (z : ℤ). Spells per_coding.ruling.fielding (UnknownItem per_loose root more) z c.args.units.now c.read_index_below.new.bits)
    (index_told c.in_ok-index.index (omega (arith, at.0, few)))
    (index_read root more c.in_ok-index.index c.args.units.now c.next.new.self c.read_index_below.new.bits e at.1 to_come)
