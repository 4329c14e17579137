use Rattle.std.proofs.Common.{◌≡◌, ◌∙◌, ◌-◌, suc, sym, ap, get_or, arith, bytes_eq}
use Rattle.std.specs.Prelude.{is_some}
use Rattle.std.specs.HashMap as hash
use Rattle.std.proofs.lemmas.Map.Text.{hash_map_updates_str}
use Rattle.asn_module.proofs.Lookups.{found_next, twice_next, twice_within}
use Rattle.asn_notation.specs.Tree.{assignments_view}
use Rattle.asn_module.specs.Lookup.{assigned_names}
use Rattle.asn_module.proofs.indexing.indices_of.Goals as goal

pub returns-then-is_some-clause-twice : goal.returns-then-is_some-clause-twice
returns-then-is_some-clause-twice c =
    let l = c.names in
    let x = get_or c.args.assignments.now (l.index - 1) c.index-assignments-index.result in
    let ex = ap (get_or c.args.assignments.now (l.index - 1)) c.index-assignments-index.is in
    let back : l.index ≡ suc (l.index - 1) = omega (arith, c.names-test.true) in
    let twice = twice_next c.args.assignments.now l.index (l.index - 1) x (λ q. hash.get_by (λ k. bytes_eq q k.now) l.indices) back l.invariant.inside ex l.invariant.finds l.invariant.distinct in
    let had = ap is_some c.in_ok-insert.ensures.old in
    twice_within (l.index - 1) (assigned_names (assignments_view c.args.assignments.now)) (twice ∙ sym had ∙ sym c.is_some.ensures ∙ c.if-is_some.true)

pub names-preserved : goal.names-preserved
names-preserved c =
    let l = c.names in
    let x = get_or c.args.assignments.now (l.index - 1) c.index-assignments-index.result in
    let ex = ap (get_or c.args.assignments.now (l.index - 1)) c.index-assignments-index.is in
    let back : l.index ≡ suc (l.index - 1) = omega (arith, c.names-test.true) in
    let twice = twice_next c.args.assignments.now l.index (l.index - 1) x (λ q. hash.get_by (λ k. bytes_eq q k.now) l.indices) back l.invariant.inside ex l.invariant.finds l.invariant.distinct in
    let had = ap is_some c.in_ok-insert.ensures.old in
    record {
      inside = omega (arith, l.invariant.inside);
      finds = found_next c.args.assignments.now l.index (l.index - 1) x (λ q. hash.get_by (λ k. bytes_eq q k.now) l.indices) (λ q. hash.get_by (λ k. bytes_eq q k.now) c.insert.new.self) back l.invariant.inside ex l.invariant.finds
          (λ q. hash_map_updates_str x.name.now l.indices c.insert.new.self _ c.in_ok-insert.ensures.updates q);
      distinct = twice ∙ sym had ∙ sym c.is_some.ensures ∙ c.if-is_some.false;
    }
