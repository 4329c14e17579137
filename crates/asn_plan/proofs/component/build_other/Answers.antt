use Rattle.std.proofs.Common.{ℕ, List}
use Rattle.asn_values.specs.View.{datum_of}
use Rattle.asn_plan.proofs.NodeKinds.{if_some}
use Rattle.asn_plan.proofs.WordsTaken.{nothing_left}
use Rattle.asn_plan.proofs.component.build_other.Goals as goal

pub returns-then-not-is_empty-clause-some : goal.returns-then-not-is_empty-clause-some
returns-then-not-is_empty-clause-some g c =
    let r = g.R.ReadLeaves.rules in
    if_some c.build_other_number.result _ _ (λ p built plan. rw c.fill.ensures.same (built (r.to_units c.fill.new.units) plan)) c.build_other_number.ensures

pub returns-clause-some : goal.returns-clause-some
returns-clause-some g c plan =
    let r = g.R.ReadLeaves.rules in
    let none = λ (us : List ℕ). nothing_left r c.fill.new.word us (c.is_empty.ensures c.if-not-is_empty.false) in
    record {
      value = datum_of c.in_ok-value.value;
      of_value = c.in_ok-other.ensures;
      read = rw (c.fill.ensures.same, none (r.to_units c.fill.new.units), none (r.to_units c.read_other.new.units)) c.in_ok-value.ensures.some;
    }
