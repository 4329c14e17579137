use Rattle.std.proofs.Common.{◌∙◌, ◌++◌, ◌∷◌, [], ap, map, refl}
use Rattle.asn_plan.specs.Placed.{taken}
use Rattle.asn_plan.proofs.reused.ReusedBuild.element.Goals as goal

pub returns : goal.returns
returns c some s m ds d t q =
    let p = c.in_ok-go_on.ensures in
    record {
      same = p.same refl ∙ q.put.same ∙ t.same;
      around_same = ap (λ v. map taken v.items) p.around ∙ q.around_same ∙ t.around_same;
      elements = p.made refl d q.put.there ∙ ap (λ es. es ++ d ∷ []) t.elements;
    }
