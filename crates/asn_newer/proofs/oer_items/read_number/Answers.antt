use Rattle.std.proofs.Common.{◌≤◌, ◌-◌, ℤ, arith, sym, ap, subst, refl, ◌∙◌}
use Rattle.std.proofs.lemmas.Bool.{true≢false}
use Rattle.asn_bits.specs.Numbers.{packed, signed_octet_count}
use Rattle.asn_newer.specs.ItemNumbers.{IsItemNumber}
use Rattle.asn_newer.proofs.Walk.OerItems.{is_short as short, none_of_count, none_after, none_else, long_read, octets_after_length, kept_32}
use Rattle.asn_newer.proofs.oer_items.read_number.Goals.{then-count-eq0-via-then-count-eq0, then-count-eq0-via-else-count-eq0+then-count-gt4, then-is_short-via-then-is_short, then-is_short-via-else-is_short+then-signed_octet_count-count}
use Rattle.asn_newer.proofs.oer_items.read_number.Goals as goal

pub returns-then-count-eq0-clause-none : goal.returns-then-count-eq0-clause-none
returns-then-count-eq0-clause-none c =
    λ after. none_of_count c.args.units.now c.take_number.new.self c.in-Some.first c.in-Some.ensures.fits c.in-Some.ensures.some c.if-first-lt128.false
    (λ some few. elim c.then-count-eq0.branch [ then-count-eq0-via-then-count-eq0 w ↦ omega (arith, some, few, w.if-count-eq0.true) | then-count-eq0-via-else-count-eq0+then-count-gt4 w ↦ omega (arith, some, few, w.if-count-gt4.true) ]) after

pub returns-in_default-take_number-clause-none : goal.returns-in_default-take_number-clause-none
returns-in_default-take_number-clause-none c =
    let at = octets_after_length 1 c.in-Some.first c.args.units.now c.take_number.new.self c.in-Some.ensures.some c.requires.at_octet in
    none_after c.args.units.now c.take_number.new.self c.in-Some.first c.in-Some.ensures.fits c.in-Some.ensures.some c.if-first-lt128.false at (c.in_default-take_number.ensures.none.0 refl)

pub returns-then-is_short-clause-none : goal.returns-then-is_short-clause-none
returns-then-is_short-clause-none c =
    let is = c.signed_number-number.ensures.is in
    let keep = kept_32 c.signed_number-number.result c.signed_number-number.ensures.near in
    λ after. none_else c.args.units.now c.take_number.new.self c.in-Some.first c.in-Some.ensures.fits c.in-Some.ensures.some c.if-first-lt128.false c.take_number-2.new.self c.in-Some-take_number.residue c.in-Some-take_number.ensures.fits c.in-Some-take_number.ensures.some
    (λ long count. elim c.then-is_short.branch [
      | then-is_short-via-then-is_short w ↦ true≢false (sym w.if-is_short.true ∙ c.is_short.ensures ∙ ap short (keep ∙ is) ∙ long)
      | then-is_short-via-else-is_short+then-signed_octet_count-count w ↦ w.if-signed_octet_count-count.true (w.signed_octet_count.ensures.count ∙ ap signed_octet_count (keep ∙ is) ∙ count)
    ]) after

pub returns-clause-at_octet : goal.returns-clause-at_octet
returns-clause-at_octet c =
    let at = octets_after_length 1 c.in-Some.first c.args.units.now c.take_number.new.self c.in-Some.ensures.some c.requires.at_octet in
    octets_after_length (c.in-Some.first - 128) c.in-Some-take_number.residue c.take_number.new.self c.take_number-2.new.self c.in-Some-take_number.ensures.some at

pub returns-clause-done : goal.returns-clause-done
returns-clause-done c =
    let is = c.signed_number-number.ensures.is in
    let keep = kept_32 c.signed_number-number.result c.signed_number-number.ensures.near in
    let some : 1 ≤ c.in-Some.first - 128 = omega (arith, c.if-count-eq0.false) in
    subst (λ (z : ℤ). IsItemNumber z (packed c.args.units.now) (packed c.take_number-2.new.self)) (sym (keep ∙ is))
    (long_read c.args.units.now c.take_number.new.self c.in-Some.first c.in-Some.ensures.fits c.in-Some.ensures.some c.if-first-lt128.false c.take_number-2.new.self c.in-Some-take_number.residue c.in-Some-take_number.ensures.fits c.in-Some-take_number.ensures.some
    some c.if-count-gt4.false (sym (ap short (keep ∙ is)) ∙ sym c.is_short.ensures ∙ c.if-is_short.false) (sym (ap signed_octet_count (keep ∙ is)) ∙ sym c.signed_octet_count.ensures.count ∙ c.if-signed_octet_count-count.false))
