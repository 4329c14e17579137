use Rattle.std.proofs.Common.{◌≡◌, rules}
use Rattle.std.proofs.lemmas.Result.{err_from_is_err_and}
use Rattle.asn_values.specs.View.{shape_of}
use Rattle.asn_values.proofs.Walks.{of_profile}
use Rattle.asn_values.proofs.checked.Checked.new.Goals as goal

pub invariant_of-result : goal.invariant_of-result
invariant_of-result c =
    let shared : c.in_ok-tree.tree.value ≡ c.args.ty = search rules in
    rw shared (of_profile c.in_ok-check_type.field-0 (shape_of c.args.ty) c.in_ok-check_type.ensures.sound)

pub returns-clause-of_profile : goal.returns-clause-of_profile
returns-clause-of_profile c = of_profile c.in_ok-check_type.field-0 (shape_of c.args.ty) c.in_ok-check_type.ensures.sound

-- where the allocation is refused, the walk found no fault
pub returns-in_err-tree-clause-memory : goal.returns-in_err-tree-clause-memory
returns-in_err-tree-clause-memory c =
    let p = err_from_is_err_and c.from_residual-in_err-tree.result c.from_residual-in_err-tree.ensures.1 in
    rw p.1 (λ e. of_profile c.in_ok-check_type.field-0 (shape_of c.args.ty) c.in_ok-check_type.ensures.sound)
