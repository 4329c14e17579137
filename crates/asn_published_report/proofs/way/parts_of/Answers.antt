use Rattle.std.proofs.Common.{◌≡◌, ◌+◌, ◌∷◌, [], false, length, refl, replicate, subst, sym, ℕ, Option, Some, None, MatchOption, vec_len, arith}
use Rattle.std.proofs.lemmas.Grind.{common_steps}
use Rattle.std.proofs.lemmas.List.{nil_from_length}
use Rattle.asn_published_report.proofs.Search.{Searching, starts, visited, smaller, ends}
use Rattle.asn_published_report.proofs.way.parts_of.Goals as goal

pub loop-at-init : goal.loop-at-init
loop-at-init c =
    let report = c.args.report.now in
    let marks : c.in_ok-marks.marks.items ≡ replicate (length report) false = c.in_ok-marks.ensures.items_if_clones_equal (λ y e. e) in
    let todo : c.in_ok-todo.todo.items ≡ c.args.index ∷ [] = c.in_ok-todo.ensures.items in
    subst (λ ms. Searching report c.args.index ms c.in_ok-todo.todo.items) (sym marks) (subst (λ xs. Searching report c.args.index (replicate (length report) false) xs) (sym todo) (starts report c.args.index))

pub loop-at-smaller : goal.loop-at-smaller
loop-at-smaller c = smaller c.args.report.now c.loop-at.marks.items c.loop-at.todo.items c.pop.new.self.items c.in-Some.at c.visit.new.marks.items c.visit.new.todo.items c.in-Some.ensures.items c.loop-at.invariant.sized c.in_ok-visit.ensures

pub loop-at-preserved : goal.loop-at-preserved
loop-at-preserved c = visited c.args.report.now c.args.index c.loop-at.marks.items c.loop-at.todo.items c.pop.new.self.items c.in-Some.at c.visit.new.marks.items c.visit.new.todo.items c.in-Some.ensures.items c.loop-at.invariant c.in_ok-visit.ensures

none_popped : (r : Option ℕ) → ((x : ℕ) → r ≡ Some x → ⊥) → r ≡ None
none_popped None isnt = refl
none_popped (Some x) isnt = absurd (isnt x refl)

pub returns : goal.returns
returns c =
    let none : c.pop.result ≡ None = none_popped c.pop.result c.in_default.not-Some in
    let empty = subst (λ r. MatchOption r ((vec_len c.loop-at.todo ≡ 0) × (vec_len c.pop.new.self ≡ 0)) (λ x. vec_len c.pop.new.self + 1 ≡ vec_len c.loop-at.todo)) none c.pop.ensures.cases in
    let nothing : c.loop-at.todo.items ≡ [] = nil_from_length c.loop-at.todo.items (let count = empty.0 in grind (arith, common_steps, count)) in
    ends c.args.report.now c.args.index c.loop-at.marks.items (subst (λ xs. Searching c.args.report.now c.args.index c.loop-at.marks.items xs) nothing c.loop-at.invariant)
