use Rattle.std.proofs.Common.{◌≡◌, ◌∙◌, ◌-◌, ◌<◌, ap, true, false, le_refl, refl, suc, length, arith, rules}
use Rattle.std.proofs.lemmas.Grind.{common_steps}
use Rattle.std.proofs.lemmas.List.{map_push, length-drop}
use Rattle.asn_notation.specs.Lexing.{lexed}
use Rattle.asn_notation.specs.Tree.{item_view, items_view}
use Rattle.asn_notation.specs.Reading.{goes_on, item_at}
use Rattle.asn_notation.proofs.Turns.{gives_err, others_end, others_more, others_none, all_others_is}
use Rattle.asn_notation.proofs.enumerations.other_items.Goals as goal

pub items-init : goal.items-init
items-init c = (search rules, le_refl _, (suc (length (lexed c.args.text.now)), omega arith, all_others_is (item_at) _ _))

pub returns-then-not-goes_on-clause-value : goal.returns-then-not-goes_on-clause-value
returns-then-not-goes_on-clause-value c =
    let l = c.items in
    let (m, room, loop) = l.invariant.2 in
    let stop : goes_on (lexed l.rest.now) ≡ false = grind (arith, common_steps) in
    loop ∙ others_end (item_at) m (items_view l.all.items) (lexed l.rest.now) (omega arith) stop

pub returns-in_err-item-clause-value : goal.returns-in_err-item-clause-value
returns-in_err-item-clause-value c =
    let l = c.items in
    let (m, room, loop) = l.invariant.2 in
    let on : goes_on (lexed l.rest.now) ≡ true = grind (arith, common_steps) in
    gives_err _ c.from_residual.result _ c.in_err-item.field-0.0 _ c.from_residual.ensures.1 (λ y p. p) λ refused.
    loop ∙ others_none (item_at) m (items_view l.all.items) (lexed l.rest.now) (omega arith) on (rw c.after_first.ensures at (c.in_err-item.ensures.value refused))

pub items-preserved : goal.items-preserved
items-preserved c =
    let l = c.items in
    let (m, room, loop) = l.invariant.2 in
    let on : goes_on (lexed l.rest.now) ≡ true = grind (arith, common_steps) in
    let some : 0 < length (lexed l.rest.now) = grind (arith, common_steps) in
    let shorter = c.in_ok-item.ensures.shorter in
    let dropped = ap length c.after_first.ensures ∙ length-drop 1 (lexed l.rest.now) in
    let before = l.invariant.1 in (
      search rules,
      omega arith,
      (m - 1, omega arith, loop ∙ others_more (item_at) m (items_view l.all.items) (lexed l.rest.now) (item_view c.in_ok-item.item) (lexed c.in_ok-item.after.now) (omega arith) on (rw c.after_first.ensures at c.in_ok-item.ensures.value) ∙ rw (c.in_ok-push.ensures.items, map_push) refl),
    )
