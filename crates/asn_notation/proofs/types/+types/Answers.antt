use Rattle.std.proofs.Common.{◌≡◌, ◌∙◌, ◌-◌, ◌<◌, ap, true, false, le_refl, refl, suc, length, [], drop, Some, arith, rules}
use Rattle.std.proofs.lemmas.Grind.{common_steps}
use Rattle.std.proofs.lemmas.List.{map_push, length-drop}
use Rattle.asn_notation.specs.Lexing.{lexed}
use Rattle.asn_notation.specs.Tree.{part_view, parts_view, branch_view, branches_view}
use Rattle.asn_notation.specs.Reading.{goes_on, component_at, alternative_at, type_at, begins_sign, after_sign, all_others}
use Rattle.asn_notation.proofs.Turns.{gives_err, others_end, others_more, others_none, all_others_is, body_dots}
use Rattle.asn_notation.proofs.Views.{tree_view_sequence}
use Rattle.asn_notation.specs.declared.token.Sign.TheVariants.{RightBrace, Dots}
use Rattle.asn_notation.proofs.types.+types.Goals as goal

pub other_components-components-init : goal.other_components-components-init
other_components-components-init t c = (search rules, le_refl _, (suc (length (lexed c.args.text.now)), omega arith, all_others_is (component_at (type_at c.args.levels)) _ _))

pub other_components-returns-then-not-goes_on-clause-value : goal.other_components-returns-then-not-goes_on-clause-value
other_components-returns-then-not-goes_on-clause-value t c =
    let l = c.components in
    let (m, room, loop) = l.invariant.2 in
    let stop : goes_on (lexed l.rest.now) ≡ false = grind (arith, common_steps) in
    loop ∙ others_end (component_at (type_at c.args.levels)) m (parts_view l.all.items) (lexed l.rest.now) (omega arith) stop

pub other_components-returns-in_err-component-clause-value : goal.other_components-returns-in_err-component-clause-value
other_components-returns-in_err-component-clause-value t c =
    let l = c.components in
    let (m, room, loop) = l.invariant.2 in
    let on : goes_on (lexed l.rest.now) ≡ true = grind (arith, common_steps) in
    gives_err _ c.from_residual.result _ c.in_err-component.field-0.0 _ c.from_residual.ensures.1 (λ y p. p) λ refused.
    loop ∙ others_none (component_at (type_at c.args.levels)) m (parts_view l.all.items) (lexed l.rest.now) (omega arith) on (rw c.after_first.ensures at (c.in_err-component.ensures.value refused))

pub other_components-components-preserved : goal.other_components-components-preserved
other_components-components-preserved t c =
    let l = c.components in
    let (m, room, loop) = l.invariant.2 in
    let on : goes_on (lexed l.rest.now) ≡ true = grind (arith, common_steps) in
    let some : 0 < length (lexed l.rest.now) = grind (arith, common_steps) in
    let shorter = c.in_ok-component.ensures.shorter in
    let dropped = ap length c.after_first.ensures ∙ length-drop 1 (lexed l.rest.now) in
    let before = l.invariant.1 in (
      search rules,
      omega arith,
      (m - 1, omega arith, loop ∙ others_more (component_at (type_at c.args.levels)) m (parts_view l.all.items) (lexed l.rest.now) (part_view c.in_ok-component.component) (lexed c.in_ok-component.after.now) (omega arith) on (rw c.after_first.ensures at c.in_ok-component.ensures.value) ∙ rw (c.in_ok-push.ensures.items, map_push) refl),
    )

pub other_alternatives-alternatives-init : goal.other_alternatives-alternatives-init
other_alternatives-alternatives-init t c = (search rules, le_refl _, (suc (length (lexed c.args.text.now)), omega arith, all_others_is (alternative_at (type_at c.args.levels)) _ _))

pub other_alternatives-returns-then-not-goes_on-clause-value : goal.other_alternatives-returns-then-not-goes_on-clause-value
other_alternatives-returns-then-not-goes_on-clause-value t c =
    let l = c.alternatives in
    let (m, room, loop) = l.invariant.2 in
    let stop : goes_on (lexed l.rest.now) ≡ false = grind (arith, common_steps) in
    loop ∙ others_end (alternative_at (type_at c.args.levels)) m (branches_view l.all.items) (lexed l.rest.now) (omega arith) stop

pub other_alternatives-returns-in_err-alternative-clause-value : goal.other_alternatives-returns-in_err-alternative-clause-value
other_alternatives-returns-in_err-alternative-clause-value t c =
    let l = c.alternatives in
    let (m, room, loop) = l.invariant.2 in
    let on : goes_on (lexed l.rest.now) ≡ true = grind (arith, common_steps) in
    gives_err _ c.from_residual.result _ c.in_err-alternative.field-0.0 _ c.from_residual.ensures.1 (λ y p. p) λ refused.
    loop ∙ others_none (alternative_at (type_at c.args.levels)) m (branches_view l.all.items) (lexed l.rest.now) (omega arith) on (rw c.after_first.ensures at (c.in_err-alternative.ensures.value refused))

pub other_alternatives-alternatives-preserved : goal.other_alternatives-alternatives-preserved
other_alternatives-alternatives-preserved t c =
    let l = c.alternatives in
    let (m, room, loop) = l.invariant.2 in
    let on : goes_on (lexed l.rest.now) ≡ true = grind (arith, common_steps) in
    let some : 0 < length (lexed l.rest.now) = grind (arith, common_steps) in
    let shorter = c.in_ok-alternative.ensures.shorter in
    let dropped = ap length c.after_first.ensures ∙ length-drop 1 (lexed l.rest.now) in
    let before = l.invariant.1 in (
      search rules,
      omega arith,
      (m - 1, omega arith, loop ∙ others_more (alternative_at (type_at c.args.levels)) m (branches_view l.all.items) (lexed l.rest.now) (branch_view c.in_ok-alternative.alternative) (lexed c.in_ok-alternative.after.now) (omega arith) on (rw c.after_first.ensures at c.in_ok-alternative.ensures.value) ∙ rw (c.in_ok-push.ensures.items, map_push) refl),
    )

pub body_at-returns-then-begins_sign-2-clause-value : goal.body_at-returns-then-begins_sign-2-clause-value
body_at-returns-then-begins_sign-2-clause-value t c =
    let ts = lexed c.args.text.now in
    let no_brace : begins_sign RightBrace ts ≡ false = grind (arith, common_steps) in
    let begins : begins_sign Dots ts ≡ true = grind (arith, common_steps) in
    let read : all_others (component_at (type_at c.args.levels)) [] (drop 1 ts) ≡ Some (parts_view c.in_ok-more.more.items, lexed c.in_ok-more.rest.now) = rw (c.new.ensures.items, c.after_first-then-begins_sign-2.ensures) at c.in_ok-more.ensures.value in
    let closed : after_sign RightBrace (lexed c.in_ok-more.rest.now) ≡ Some (lexed c.in_ok-rest.rest.now) = c.in_ok-rest.ensures.value in
    body_dots (type_at c.args.levels) ts (lexed c.in_ok-more.rest.now) (lexed c.in_ok-rest.rest.now) (parts_view c.in_ok-more.more.items) no_brace begins read closed ∙ rw (tree_view_sequence, c.new-root-then-begins_sign-2.ensures.items) refl
