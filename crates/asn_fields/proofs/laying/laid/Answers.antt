use Rattle.std.proofs.Common.{◌≡◌, ◌≤◌, ◌-◌, ◌++◌, ◌∙◌, List, map, take, drop, length, length-drop, refl, sym, ap, subst, arith}
use Rattle.std.proofs.lemmas.List.{take_all}
use Rattle.asn_values.specs.declared.value.Value.{Value}
use Rattle.asn_values.specs.View.{datum_of}
use Rattle.asn_fields.specs.declared.field.MessageField.{MessageField}
use Rattle.asn_fields.specs.Tiles.{Tiles, contents}
use Rattle.asn_fields.proofs.Tiling.{tiles_more, contents_none, said_more}
use Rattle.asn_fields.proofs.laying.laid.Goals as goal
use Rattle.asn_fields.proofs.laying.laid.Goals.{then-before-end+in_ok-push-2, else-before-end}

pub loop-field-preserved : goal.loop-field-preserved
loop-field-preserved c =
    let f : MessageField = record c.in-Some.field { start = c.loop-field.before; end = c.min-last.result; value = c.in_ok-value.value } in
    let le : c.loop-field.before ≤ c.min-last.result = omega (arith, c.max.ensures, c.min-last.ensures, c.loop-field.invariant.within) in
    record {
      tiles = subst (λ (l : List MessageField). Tiles 0 c.min-last.result l) (sym c.in_ok-push.ensures.items) (tiles_more 0 c.loop-field.before c.loop-field.fields.items f c.loop-field.invariant.tiles refl le);
      within = omega (arith, c.min-last.ensures);
      used = c.in_ok-value.ensures.inside;
      said = subst (λ (l : List MessageField). contents l ++ map datum_of (drop c.in_ok-value.next c.args.values.now) ≡ map datum_of c.args.values.now) (sym c.in_ok-push.ensures.items) (said_more c.loop-field.fields.items f c.args.values.now c.loop-field.used c.in_ok-value.next (map datum_of c.args.values.now) c.in_ok-value.ensures c.loop-field.invariant.said);
    }

pub returns-clause-tiles : goal.returns-clause-tiles
returns-clause-tiles c =
    let left : Tiles 0 c.loop-field.before c.push_left.new.fields.items = c.in_ok-push_left.ensures.tiles 0 c.loop-field.invariant.tiles in
    elim c.if-before-end.branch [
      | then-before-end+in_ok-push-2 w ↦ rw (w.fields-is, w.in_ok-push-2.ensures.items) (tiles_more 0 c.loop-field.before c.push_left.new.fields.items _ left refl (omega (arith, w.if-before-end.true)))
      | else-before-end w ↦ rw w.fields-is (subst (λ n. Tiles 0 n c.push_left.new.fields.items) (omega (arith, w.if-before-end.false, c.loop-field.invariant.within)) left)
    ]

pub returns-clause-values : goal.returns-clause-values
returns-clause-values c =
    let left = drop c.loop-field.used c.args.values.now in
    let whole : take (length c.args.values.now - c.loop-field.used) left ≡ left = take_all _ _ (omega (arith, length-drop c.loop-field.used c.args.values.now)) in
    let all : contents c.push_left.new.fields.items ≡ map datum_of c.args.values.now = c.in_ok-push_left.ensures.values ∙ ap (λ (l : List Value). contents c.loop-field.fields.items ++ map datum_of l) whole ∙ c.loop-field.invariant.said in
    elim c.if-before-end.branch [
      | then-before-end+in_ok-push-2 w ↦ rw (w.fields-is, w.in_ok-push-2.ensures.items) (contents_none c.push_left.new.fields.items _ refl ∙ all)
      | else-before-end w ↦ rw w.fields-is all
    ]
