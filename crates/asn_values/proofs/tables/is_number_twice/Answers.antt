use Rattle.std.proofs.Common.{rules, ◌≡◌, ◌∙◌, ◌-◌, ◌<◌, ◌++◌, ◌∷◌, [], true, suc, cond, drop, get_or, length, sym, ap, arith, w64, to_z, of_z}
use Rattle.std.proofs.lemmas.Int.{ints}
use Rattle.std.specs.HashSet.{contains}
use Rattle.std.specs.List.{list_any}
use Rattle.std.specs.Ordering.{int_eq}
use mir.Val.{SFits}
use Rattle.asn_values.specs.Profile as profile
use Rattle.asn_values.specs.View.{numbers_seen}
use Rattle.asn_values.proofs.LongLists.{first_number, no_number_left, table_step, twice_within, twice_after, with_none, had, had_not, same_number, turned}
use Rattle.asn_values.proofs.tables.is_number_twice.Goals as goal

pub returns-then-not-branch : goal.returns-then-not-branch
returns-then-not-branch c =
    let l = c.additions in
    let xs = c.args.additions.now in
    let r = get_or xs (l.index - 1) c.index-additions-index.result in
    let n = to_z w64 (of_z w64 r.number) in
    let f : SFits w64 r.number = search rules in
    let kept : n ≡ r.number = omega (arith, ints, f) in
    let i = l.index - 1 in
    let less : i < length xs = omega (arith, l.invariant.inside, c.additions-test.true) in
    let first = first_number xs i r less (ap (get_or xs i) c.index-additions-index.is) ∙ ap (λ z. z ∷ drop (suc i) (numbers_seen xs)) (sym kept) in
    let step = table_step profile.int_eq turned (λ z. z) (numbers_seen xs) [] i l.index n (contains int_eq l.later) (contains int_eq c.insert.new.self) (omega (arith, c.additions-test.true)) first l.invariant.found
    (λ q. c.in_ok-insert.ensures.updates.0 q ∙ ap (λ b. cond b true (contains int_eq l.later q)) (same_number n q)) l.invariant.once in
    let twice = step.1 ∙ had c.in_ok-insert.field-0 (contains int_eq l.later n) c.in_ok-insert.ensures.added c.if-not-branch.true in
    let there = ap (profile.has_twice profile.int_eq) (sym (with_none (numbers_seen xs))) ∙ twice_within profile.int_eq i (numbers_seen xs) [] twice in
    sym (twice_after profile.int_eq (numbers_seen c.args.root.now) (numbers_seen xs) there)

pub additions-preserved : goal.additions-preserved
additions-preserved c =
    let l = c.additions in
    let xs = c.args.additions.now in
    let r = get_or xs (l.index - 1) c.index-additions-index.result in
    let n = to_z w64 (of_z w64 r.number) in
    let f : SFits w64 r.number = search rules in
    let kept : n ≡ r.number = omega (arith, ints, f) in
    let i = l.index - 1 in
    let less : i < length xs = omega (arith, l.invariant.inside, c.additions-test.true) in
    let first = first_number xs i r less (ap (get_or xs i) c.index-additions-index.is) ∙ ap (λ z. z ∷ drop (suc i) (numbers_seen xs)) (sym kept) in
    let step = table_step profile.int_eq turned (λ z. z) (numbers_seen xs) [] i l.index n (contains int_eq l.later) (contains int_eq c.insert.new.self) (omega (arith, c.additions-test.true)) first l.invariant.found
    (λ q. c.in_ok-insert.ensures.updates.0 q ∙ ap (λ b. cond b true (contains int_eq l.later q)) (same_number n q)) l.invariant.once in
    record {
      inside = omega (arith, l.invariant.inside);
      found = step.0;
      once = step.1 ∙ had_not c.in_ok-insert.field-0 (contains int_eq l.later n) c.in_ok-insert.ensures.added c.if-not-branch.false;
    }

pub root-init : goal.root-init
root-init c =
    let roots = numbers_seen c.args.root.now in
    let numbers = numbers_seen c.args.additions.now in
    let last : c.additions.index ≡ 0 = omega (arith, c.additions-test.false) in
    let whole : drop c.additions.index numbers ++ [] ≡ drop (length c.args.root.now) roots ++ numbers =
    ap (λ k. drop k numbers ++ []) last ∙ with_none numbers ∙ sym (ap (λ zs. zs ++ numbers) (no_number_left c.args.root.now)) in
    record {
      inside = omega arith;
      found = λ q. c.additions.invariant.found q ∙ ap (list_any (profile.int_eq q)) whole;
      once = ap (profile.has_twice profile.int_eq) (sym whole) ∙ c.additions.invariant.once;
    }

pub returns-then-not-branch-2 : goal.returns-then-not-branch-2
returns-then-not-branch-2 c =
    let l = c.root in
    let xs = c.args.root.now in
    let r = get_or xs (l.index - 1) c.index-root-index.result in
    let n = to_z w64 (of_z w64 r.number) in
    let f : SFits w64 r.number = search rules in
    let kept : n ≡ r.number = omega (arith, ints, f) in
    let i = l.index - 1 in
    let less : i < length xs = omega (arith, l.invariant.inside, c.root-test.true) in
    let first = first_number xs i r less (ap (get_or xs i) c.index-root-index.is) ∙ ap (λ z. z ∷ drop (suc i) (numbers_seen xs)) (sym kept) in
    let step = table_step profile.int_eq turned (λ z. z) (numbers_seen xs) (numbers_seen c.args.additions.now) i l.index n (contains int_eq l.later) (contains int_eq c.insert-in-root.new.self) (omega (arith, c.root-test.true)) first l.invariant.found
    (λ q. c.in_ok-insert-2.ensures.updates.0 q ∙ ap (λ b. cond b true (contains int_eq l.later q)) (same_number n q)) l.invariant.once in
    let twice = step.1 ∙ had c.in_ok-insert-2.field-0 (contains int_eq l.later n) c.in_ok-insert-2.ensures.added c.if-not-branch-2.true in
    sym (twice_within profile.int_eq i (numbers_seen xs) (numbers_seen c.args.additions.now) twice)

pub root-preserved : goal.root-preserved
root-preserved c =
    let l = c.root in
    let xs = c.args.root.now in
    let r = get_or xs (l.index - 1) c.index-root-index.result in
    let n = to_z w64 (of_z w64 r.number) in
    let f : SFits w64 r.number = search rules in
    let kept : n ≡ r.number = omega (arith, ints, f) in
    let i = l.index - 1 in
    let less : i < length xs = omega (arith, l.invariant.inside, c.root-test.true) in
    let first = first_number xs i r less (ap (get_or xs i) c.index-root-index.is) ∙ ap (λ z. z ∷ drop (suc i) (numbers_seen xs)) (sym kept) in
    let step = table_step profile.int_eq turned (λ z. z) (numbers_seen xs) (numbers_seen c.args.additions.now) i l.index n (contains int_eq l.later) (contains int_eq c.insert-in-root.new.self) (omega (arith, c.root-test.true)) first l.invariant.found
    (λ q. c.in_ok-insert-2.ensures.updates.0 q ∙ ap (λ b. cond b true (contains int_eq l.later q)) (same_number n q)) l.invariant.once in
    record {
      inside = omega (arith, l.invariant.inside);
      found = step.0;
      once = step.1 ∙ had_not c.in_ok-insert-2.field-0 (contains int_eq l.later n) c.in_ok-insert-2.ensures.added c.if-not-branch-2.false;
    }
