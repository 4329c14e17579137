use Rattle.std.proofs.Common.{rules, ◌≡◌, ◌∙◌, ◌+◌, ◌-◌, ◌&&◌, true, length, drop, take, sym, ap, subst, arith, w64, to_z, of_z}
use Rattle.std.proofs.Math.Numerals.{add-one}
use Rattle.std.proofs.lemmas.Int.{ints}
use Rattle.std.proofs.lemmas.List.{length-drop, take_all}
use Rattle.std.specs.Int.RustNames.{int_lt}
use Rattle.std.specs.List.{list_all}
use mir.Val.{SFits}
use Rattle.asn_values.specs.Profile.{is_rising}
use Rattle.asn_values.specs.View.{numbers_seen}
use Rattle.asn_values.proofs.Rising.{rising_at}
use Rattle.asn_values.proofs.enumerations.is_rising.Goals as goal

pub loop-index-preserved : goal.loop-index-preserved
loop-index-preserved c =
    let l = c.loop-index in
    let xs = c.args.items.now in
    let x = c.index-items-index.result in
    let f : SFits w64 x.number = search rules in
    let number : to_z w64 (of_z w64 x.number) ≡ x.number = omega (arith, ints, f) in
    let here : take (length xs - (l.index + 1)) (drop (l.index + 1) xs) ≡ drop (l.index + 1) xs =
    take_all (length xs - (l.index + 1)) (drop (l.index + 1) xs) (omega (arith, length-drop (l.index + 1) xs)) in
    let below : list_all (int_lt x.number) (take 1 (numbers_seen (drop (l.index + 1) xs))) ≡ true =
    subst (λ z. list_all (int_lt z) (take 1 (numbers_seen (drop (l.index + 1) xs))) ≡ true) number (rw here at (sym c.is_below_first.ensures ∙ c.if-not-is_below_first.false)) in
    sym (rising_at xs l.index (l.index + 1) x (add-one l.index) c.loop-index-test.true c.index-items-index.is ∙ ap (λ b. b && is_rising (numbers_seen (drop (l.index + 1) xs))) below) ∙ l.invariant
