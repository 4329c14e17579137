use Rattle.std.proofs.Common.{◌≡◌, ◌<◌, ◌≤◌, ◌-ℤ◌, false, map, length, ℤ, pos, sym, ap, subst, ◌∙◌, arith}
use Rattle.std.proofs.lemmas.Int.{ints}
use Rattle.std.proofs.lemmas.List.{length-map}
use Rattle.std.specs.Int.RustNames.{int_lt}
use mir.Syntax.{w64}
use mir.Val.{to_z, of_z}
use Rattle.asn_values.specs.View.{label_of}
use Rattle.asn_rules.specs.Components.{number_at}
use Rattle.asn_per.specs.Per.{rank}
use Rattle.asn_plan.proofs.RootItems.{item_kept}
use Rattle.asn_per.proofs.Read.ItemIndexes.{just_below, IsSought, sought_starts, sought_found, sought_not_above, sought_not_below, sought_above, sought_below, sought_under, sought_over, sought_ends}
use Rattle.asn_per.proofs.items.position_by_numbers.Goals as goal
use Rattle.asn_per.proofs.items.position_by_numbers.Goals.{then-above-next+then-next-below+then-count-index, then-above-next+then-next-below+else-count-index, else-above-next, then-above-item+then-item-below+else-lower-index+then-lower-index-2, then-above-item+then-item-below+else-lower-index+else-lower-index-2, else-above-item, else-above-item-via-then-above-item+else-item-below, else-above-item-via-else-above-item}

pub loop-turn-init : goal.loop-turn-init
loop-turn-init c = sought_starts (map label_of c.args.root.now) c.requires.good c.args.index (simp length-map c.requires.inside)

pub loop-turn-preserved : goal.loop-turn-preserved
loop-turn-preserved c =
    let ls = map label_of c.args.root.now in
    let good = c.requires.good in
    let a = to_z w64 c.loop-turn.above-bits in
    let b = to_z w64 c.loop-turn.below-bits in
    let inside : c.args.index < length ls = simp length-map c.requires.inside in
    let s : IsSought ls c.args.index 0 a b = c.loop-turn.invariant in
    let z = to_z w64 (of_z w64 c.probe-next.result) in
    elim c.if-above-next.branch [
      | then-above-next+then-next-below+then-count-index w ↦
          rw (w.above-is, w.below-is) (sought_under ls good c.args.index inside 0 a b s z (subst (λ r. c.args.index < r) w.rank-count.ensures w.if-count-index.true))
      | then-above-next+then-next-below+else-count-index w ↦ (
          let y = to_z w64 (of_z w64 (z -ℤ pos 1)) in
          let before : y ≡ z -ℤ pos 1 = grind (arith, ints, w.if-above-next.true) in
          let few : rank ls z ≤ c.args.index = subst (λ r. r ≤ c.args.index) w.rank-count.ensures w.if-count-index.false in
          rw (w.above-is, w.below-is) (sought_over ls good c.args.index inside 0 a b s y z (λ x. just_below y z x before) few)
          )
      | else-above-next w ↦ rw (w.above-is, w.below-is) s
    ]

pub returns-then-lower-index : goal.returns-then-lower-index
returns-then-lower-index c =
    let ls = map label_of c.args.root.now in
    let p = c.loop-position.position in
    let here : to_z w64 (of_z w64 c.index-root-position.result.number) ≡ number_at ls p = item_kept c.args.root.now p c.index-root-position.result c.index-root-position.result c.requires.good c.loop-position-test.true c.index-root-position.is in
    sought_found ls c.requires.good c.args.index (simp length-map c.requires.inside) p (simp length-map c.loop-position-test.true) (ap (rank ls) (sym here) ∙ sym c.rank-lower.ensures ∙ c.if-lower-index.true)

pub loop-position-preserved : goal.loop-position-preserved
loop-position-preserved c =
    let ls = map label_of c.args.root.now in
    let p = c.loop-position.position in
    let a = to_z w64 c.loop-position.above-bits in
    let b = to_z w64 c.loop-position.below-bits in
    let x = c.index-root-position.result in
    let z = to_z w64 (of_z w64 x.number) in
    let good = c.requires.good in
    let inside : c.args.index < length ls = simp length-map c.requires.inside in
    let here : z ≡ number_at ls p = item_kept c.args.root.now p x x good c.loop-position-test.true c.index-root-position.is in
    let s : IsSought ls c.args.index p a b = c.loop-position.invariant in
    elim c.if-above-item.branch [
      | then-above-item+then-item-below+else-lower-index+then-lower-index-2 w ↦ (
          let lower : rank ls (number_at ls p) < c.args.index = subst (λ (y : ℤ). rank ls y < c.args.index) here (subst (λ r. r < c.args.index) w.rank-lower.ensures w.if-lower-index-2.true) in
          rw (w.above-is, w.below-is, here) (sought_above ls good c.args.index inside p a b s lower)
          )
      | then-above-item+then-item-below+else-lower-index+else-lower-index-2 w ↦ (
          let more : c.args.index < w.rank-lower.result = omega (arith, w.if-lower-index.false, w.if-lower-index-2.false) in
          let higher : c.args.index < rank ls (number_at ls p) = subst (λ (y : ℤ). c.args.index < rank ls y) here (subst (λ r. c.args.index < r) w.rank-lower.ensures more) in
          rw (w.above-is, w.below-is, here) (sought_below ls good c.args.index inside p a b s higher)
          )
      | else-above-item w ↦
          elim w.else-above-item.branch [
            | else-above-item-via-then-above-item+else-item-below v ↦ rw (w.above-is, w.below-is) (sought_not_below ls good c.args.index inside p a b s (subst (λ (y : ℤ). int_lt y b ≡ false) here v.if-item-below.false))
            | else-above-item-via-else-above-item v ↦ rw (w.above-is, w.below-is) (sought_not_above ls good c.args.index inside p a b s (subst (λ (y : ℤ). int_lt a y ≡ false) here v.if-above-item.false))
          ]
    ]

pub unreachable-requires : goal.unreachable-requires
unreachable-requires c =
    sought_ends (map label_of c.args.root.now) c.requires.good c.args.index (simp length-map c.requires.inside) c.loop-position.position (to_z w64 c.loop-position.above-bits) (to_z w64 c.loop-position.below-bits) c.loop-position.invariant
    (simp length-map c.loop-position-test.false)
