use Rattle.std.proofs.Common.{◌∙◌, ap, map}
use Rattle.asn_plan.specs.Placed.{taken}
use Rattle.asn_plan.proofs.reused.ReusedBuild.elements.Goals as goal

pub returns : goal.returns
returns c = record {
  same = c.lay_next.ensures.same ∙ c.take.ensures.same;
  around_same = ap (λ v. map taken v.items) c.lay_next.ensures.around;
  elements = c.lay_next.ensures.made;
}
