use Rattle.std.proofs.Common.{◌≡◌, ◌∙◌, ◌-◌, ◌<◌, ◌++◌, ◌∷◌, [], List, ℕ, suc, map, drop, length, bytes_eq, Bor, sym, ap, arith}
use Rattle.std.specs.Cmp.Lexicographic.{nat_list_eq_equiv}
use Rattle.std.specs.HashSet.{contains}
use Rattle.std.specs.List.{list_any}
use Rattle.asn_values.specs.Profile.{has_twice}
use Rattle.asn_values.proofs.LongLists.{first_from, none_left, table_step, twice_within, twice_after, with_none, had, had_not}
use Rattle.asn_values.proofs.tables.is_name_twice.Goals as goal

pub returns-then-not-branch : goal.returns-then-not-branch
returns-then-not-branch g c =
    let l = c.additions in
    let xs = c.args.additions.now in
    let names = map g.T.Named.name_of xs in
    let i = l.index - 1 in
    let n = c.name.result in
    let less : i < length xs = omega (arith, l.invariant.inside, c.additions-test.true) in
    let first = first_from g.T.Named.name_of xs i c.index-additions-index.result less c.index-additions-index.is ∙ ap (λ z. z ∷ drop (suc i) names) (sym c.name.ensures) in
    let step = table_step bytes_eq nat_list_eq_equiv.symm (λ (k : Bor (List ℕ)). k.now) names [] i l.index n (contains (λ x y. bytes_eq x.now y.now) l.later) (contains (λ x y. bytes_eq x.now y.now) c.insert.new.self) (omega (arith, c.additions-test.true)) first
    l.invariant.found c.in_ok-insert.ensures.updates.0 l.invariant.once in
    let twice = step.1 ∙ had c.in_ok-insert.field-0 (contains (λ x y. bytes_eq x.now y.now) l.later n) c.in_ok-insert.ensures.added c.if-not-branch.true in
    let there = ap (has_twice bytes_eq) (sym (with_none names)) ∙ twice_within bytes_eq i names [] twice in
    sym (twice_after bytes_eq (map g.T.Named.name_of c.args.root.now) names there)

pub additions-preserved : goal.additions-preserved
additions-preserved g c =
    let l = c.additions in
    let xs = c.args.additions.now in
    let names = map g.T.Named.name_of xs in
    let i = l.index - 1 in
    let n = c.name.result in
    let less : i < length xs = omega (arith, l.invariant.inside, c.additions-test.true) in
    let first = first_from g.T.Named.name_of xs i c.index-additions-index.result less c.index-additions-index.is ∙ ap (λ z. z ∷ drop (suc i) names) (sym c.name.ensures) in
    let step = table_step bytes_eq nat_list_eq_equiv.symm (λ (k : Bor (List ℕ)). k.now) names [] i l.index n (contains (λ x y. bytes_eq x.now y.now) l.later) (contains (λ x y. bytes_eq x.now y.now) c.insert.new.self) (omega (arith, c.additions-test.true)) first
    l.invariant.found c.in_ok-insert.ensures.updates.0 l.invariant.once in
    record {
      inside = omega (arith, l.invariant.inside);
      found = step.0;
      once = step.1 ∙ had_not c.in_ok-insert.field-0 (contains (λ x y. bytes_eq x.now y.now) l.later n) c.in_ok-insert.ensures.added c.if-not-branch.false;
    }

pub root-init : goal.root-init
root-init g c =
    let roots = map g.T.Named.name_of c.args.root.now in
    let names = map g.T.Named.name_of c.args.additions.now in
    let last : c.additions.index ≡ 0 = omega (arith, c.additions-test.false) in
    let whole : drop c.additions.index names ++ [] ≡ drop (length c.args.root.now) roots ++ names =
    ap (λ k. drop k names ++ []) last ∙ with_none names ∙ sym (ap (λ zs. zs ++ names) (none_left g.T.Named.name_of c.args.root.now)) in
    record {
      inside = omega arith;
      found = λ q. c.additions.invariant.found q ∙ ap (list_any (bytes_eq q.now)) whole;
      once = ap (has_twice bytes_eq) (sym whole) ∙ c.additions.invariant.once;
    }

pub returns-then-not-branch-2 : goal.returns-then-not-branch-2
returns-then-not-branch-2 g c =
    let l = c.root in
    let xs = c.args.root.now in
    let names = map g.T.Named.name_of xs in
    let i = l.index - 1 in
    let n = c.name-in-root.result in
    let less : i < length xs = omega (arith, l.invariant.inside, c.root-test.true) in
    let first = first_from g.T.Named.name_of xs i c.index-root-index.result less c.index-root-index.is ∙ ap (λ z. z ∷ drop (suc i) names) (sym c.name-in-root.ensures) in
    let step = table_step bytes_eq nat_list_eq_equiv.symm (λ (k : Bor (List ℕ)). k.now) names (map g.T.Named.name_of c.args.additions.now) i l.index n (contains (λ x y. bytes_eq x.now y.now) l.later) (contains (λ x y. bytes_eq x.now y.now) c.insert-in-root.new.self) (omega (arith, c.root-test.true)) first
    l.invariant.found c.in_ok-insert-2.ensures.updates.0 l.invariant.once in
    let twice = step.1 ∙ had c.in_ok-insert-2.field-0 (contains (λ x y. bytes_eq x.now y.now) l.later n) c.in_ok-insert-2.ensures.added c.if-not-branch-2.true in
    sym (twice_within bytes_eq i names (map g.T.Named.name_of c.args.additions.now) twice)

pub root-preserved : goal.root-preserved
root-preserved g c =
    let l = c.root in
    let xs = c.args.root.now in
    let names = map g.T.Named.name_of xs in
    let i = l.index - 1 in
    let n = c.name-in-root.result in
    let less : i < length xs = omega (arith, l.invariant.inside, c.root-test.true) in
    let first = first_from g.T.Named.name_of xs i c.index-root-index.result less c.index-root-index.is ∙ ap (λ z. z ∷ drop (suc i) names) (sym c.name-in-root.ensures) in
    let step = table_step bytes_eq nat_list_eq_equiv.symm (λ (k : Bor (List ℕ)). k.now) names (map g.T.Named.name_of c.args.additions.now) i l.index n (contains (λ x y. bytes_eq x.now y.now) l.later) (contains (λ x y. bytes_eq x.now y.now) c.insert-in-root.new.self) (omega (arith, c.root-test.true)) first
    l.invariant.found c.in_ok-insert-2.ensures.updates.0 l.invariant.once in
    record {
      inside = omega (arith, l.invariant.inside);
      found = step.0;
      once = step.1 ∙ had_not c.in_ok-insert-2.field-0 (contains (λ x y. bytes_eq x.now y.now) l.later n) c.in_ok-insert-2.ensures.added c.if-not-branch-2.false;
    }
