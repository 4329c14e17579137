use Rattle.std.proofs.Common.{◌≡◌, ◌<◌, arith, refl}
use Rattle.asn_notation.specs.Tree.{assignments_view}
use Rattle.asn_module.specs.Known.{unbuilt}
use Rattle.asn_module.proofs.Tables.{all_built, are_types, have_types, size_built}
use Rattle.asn_module.proofs.table.types_of.Goals as goal

pub returns-then-are_built-clause-sound : goal.returns-then-are_built-clause-sound
returns-then-are_built-clause-sound c =
    let all = assignments_view c.args.assignments.now in
    are_types all all c.build_all.new.names.items c.in_ok-build_all.ensures.sound (rw c.deref-2.ensures.value at (c.if-are_built.ensures.all refl))

pub returns-then-are_built-clause-within : goal.returns-then-are_built-clause-within
returns-then-are_built-clause-within c =
    rw (size_built c.build_all.new.names.items) (rw c.deref.ensures.value at c.in_ok-stop_past.ensures.within)

pub returns-else-are_built-clause-none : goal.returns-else-are_built-clause-none
returns-else-are_built-clause-none c = λ _ ts typed.
    let all = assignments_view c.args.assignments.now in
    let none : unbuilt c.build_all.new.names.items ≡ 0 = all_built all c.build_all.new.names.items (have_types all all ts typed) c.in_ok-build_all.ensures.sound c.in_ok-build_all.ensures.done in
    let some : 0 < unbuilt c.build_all.new.names.items = rw c.deref-2.ensures.value at (c.if-are_built.ensures.some refl) in
    omega (arith, none, some)
