use Rattle.std.proofs.Common.{◌≡◌, ◌∙◌, ◌-◌, true, false, le_refl, refl, suc, length, arith, rules}
use Rattle.std.proofs.lemmas.Grind.{common_steps}
use Rattle.std.proofs.lemmas.List.{map_push}
use Rattle.asn_notation.specs.Lexing.{lexed}
use Rattle.asn_notation.specs.Tree.{assignment_view, assignments_view}
use Rattle.asn_notation.specs.Reading.{begins_word}
use Rattle.asn_notation.specs.declared.token.Word.TheVariants.{End}
use Rattle.asn_notation.proofs.Turns.{gives_err, assignments_end, assignments_more, assignments_none, assignments_are}
use Rattle.asn_notation.proofs.modules.assignments_at.Goals as goal

pub assignments-init : goal.assignments-init
assignments-init c = (search rules, le_refl _, (suc (length (lexed c.args.text.now)), omega arith, assignments_are c.args.levels _ ∙ rw c.new-all.ensures.items refl))

pub returns-then-begins_word-clause-value : goal.returns-then-begins_word-clause-value
returns-then-begins_word-clause-value c =
    let l = c.assignments in
    let (m, room, loop) = l.invariant.2 in
    let stop : begins_word End (lexed l.rest.now) ≡ true = grind (arith, common_steps) in
    loop ∙ assignments_end c.args.levels m (assignments_view l.all.items) (lexed l.rest.now) (omega arith) stop

pub returns-in_err-assignment-clause-value : goal.returns-in_err-assignment-clause-value
returns-in_err-assignment-clause-value c =
    let l = c.assignments in
    let (m, room, loop) = l.invariant.2 in
    let on : begins_word End (lexed l.rest.now) ≡ false = grind (arith, common_steps) in
    gives_err _ c.from_residual.result _ c.in_err-assignment.field-0.0 _ c.from_residual.ensures.1 (λ y p. p) λ refused.
    loop ∙ assignments_none c.args.levels m (assignments_view l.all.items) (lexed l.rest.now) (omega arith) on (c.in_err-assignment.ensures.value refused)

pub assignments-preserved : goal.assignments-preserved
assignments-preserved c =
    let l = c.assignments in
    let (m, room, loop) = l.invariant.2 in
    let on : begins_word End (lexed l.rest.now) ≡ false = grind (arith, common_steps) in
    let shorter = c.in_ok-assignment.ensures.shorter in
    let before = l.invariant.1 in (
      search rules,
      omega arith,
      (m - 1, omega arith, loop ∙ assignments_more c.args.levels m (assignments_view l.all.items) (lexed l.rest.now) (assignment_view c.in_ok-assignment.assignment) (lexed c.in_ok-assignment.after.now) (omega arith) on c.in_ok-assignment.ensures.value ∙ rw (c.in_ok-push.ensures.items, map_push) refl),
    )
