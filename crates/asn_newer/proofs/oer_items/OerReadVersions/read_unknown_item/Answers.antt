use Rattle.std.proofs.Common.{refl, sym, ◌∙◌}
use Rattle.std.proofs.lemmas.Bool.{true≢false}
use Rattle.std.proofs.lemmas.Result.{err_from_is_err_and}
use Rattle.asn_bits.specs.Numbers.{packed}
use Rattle.asn_values.specs.View.{labels_seen}
use Rattle.asn_newer.specs.Rules.{oer_loose}
use Rattle.asn_newer.specs.Walking.{UnknownItem}
use Rattle.asn_oer.specs.Walk.{oer_coding}
use Rattle.asn_newer.proofs.Walk.Halts.{halts_none}
use Rattle.asn_newer.proofs.Walk.OerItems.{number_read, number_halts, not_unknown}
use Rattle.asn_newer.proofs.oer_items.OerReadVersions.read_unknown_item.Goals.{else-is_above_each-via-then-is_above_each+else-not-has_number, else-is_above_each-via-else-is_above_each}
use Rattle.asn_newer.proofs.oer_items.OerReadVersions.read_unknown_item.Goals as goal

pub read_number-requires : goal.read_number-requires
unfolding oer_coding
read_number-requires c = record { at_octet = c.requires.at_unit }

pub returns-in_err-number-clause-stop : goal.returns-in_err-number-clause-stop
unfolding oer_coding
returns-in_err-number-clause-stop c =
    let p = err_from_is_err_and c.from_residual.result c.from_residual.ensures.1 in
    rw (p.1, p.2) (number_halts (labels_seen c.args.root.now) (labels_seen c.args.additions.now) (packed c.args.units.now) _ c.in_err-number.ensures.none)

pub returns-then-not-has_number-clause-at_unit : goal.returns-then-not-has_number-clause-at_unit
unfolding oer_coding
returns-then-not-has_number-clause-at_unit c = c.in_ok-number.ensures.at_octet

pub returns-then-not-has_number-clause-done : goal.returns-then-not-has_number-clause-done
unfolding oer_coding
returns-then-not-has_number-clause-done c =
    number_read (labels_seen c.args.root.now) (labels_seen c.args.additions.now) c.in_ok-number.number _ (packed c.args.units.now) (packed c.read_number.new.units) c.in_ok-number.ensures.done refl (sym c.if-is_above_each.ensures) (sym c.has_number.ensures ∙ c.if-not-has_number.true)

pub returns-else-is_above_each-clause-stop : goal.returns-else-is_above_each-clause-stop
unfolding oer_coding
returns-else-is_above_each-clause-stop c =
    halts_none oer_coding (UnknownItem oer_loose (labels_seen c.args.root.now) (labels_seen c.args.additions.now)) (packed c.args.units.now) _ (not_unknown (labels_seen c.args.root.now) (labels_seen c.args.additions.now) c.in_ok-number.number _ (packed c.args.units.now) (packed c.read_number.new.units) c.in_ok-number.ensures.done refl
    (λ e f. elim c.else-is_above_each.branch [
      | else-is_above_each-via-then-is_above_each+else-not-has_number w ↦ true≢false (sym w.if-not-has_number.false ∙ w.has_number.ensures ∙ f)
      | else-is_above_each-via-else-is_above_each w ↦ true≢false (sym e ∙ sym c.is_above_each.ensures ∙ w.if-is_above_each.false)
    ]))
