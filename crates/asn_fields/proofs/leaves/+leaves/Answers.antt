use Rattle.std.proofs.Common.{◌≡◌, ◌++◌, map, option_map, Option, sym, subst}
use Rattle.std.proofs.lemmas.List.{append-nil}
use Rattle.asn_values.specs.declared.value.Value.{Value}
use Rattle.asn_values.specs.View.{datum_of}
use Rattle.asn_fields.specs.Leaves.{leaves_in}
use Rattle.asn_fields.proofs.LeavesPushed.{of_sequence, entries_more, elements_more}
use Rattle.asn_fields.proofs.leaves.+leaves.Goals as goal

pub push_each-loop-element-preserved : goal.push_each-loop-element-preserved
push_each-loop-element-preserved t c =
    elements_more (map datum_of c.args.all.now.items) (map datum_of c.loop-element.all.items) (map datum_of c.push_leaves.new.all.items) c.args.elements.now c.loop-element.element-index c.element-item.result
    c.loop-element-test.true c.element-item.is c.loop-element.invariant c.in_ok-push_leaves.ensures

pub push_leaves-returns-in-Seq : goal.push_leaves-returns-in-Seq
push_leaves-returns-in-Seq t c =
    rw (← of_sequence c.args.value.now c.in-Seq.entries c.deref.result.now c.in-Seq.is c.deref.ensures.value) c.push_present.ensures

pub push_present-loop-entry-preserved : goal.push_present-loop-entry-preserved
push_present-loop-entry-preserved t c =
    let now = map datum_of c.loop-entry.all.items in
    let next = map datum_of c.push_leaves.new.all.items in
    entries_more (map datum_of c.args.all.now.items) now next c.args.entries.now c.loop-entry.entry-index c.entry-item.result
    c.loop-entry-test.true c.entry-item.is c.loop-entry.invariant (subst (λ (o : Option Value). next ≡ now ++ leaves_in (option_map datum_of o)) (sym c.in-Some.is) c.in_ok-push_leaves.ensures)

pub push_present-loop-entry-preserved-in_default : goal.push_present-loop-entry-preserved-in_default
push_present-loop-entry-preserved-in_default t c =
    let now = map datum_of c.loop-entry.all.items in
    entries_more (map datum_of c.args.all.now.items) now now c.args.entries.now c.loop-entry.entry-index c.entry-item.result
    c.loop-entry-test.true c.entry-item.is c.loop-entry.invariant (subst (λ (o : Option Value). now ≡ now ++ leaves_in (option_map datum_of o)) (sym c.in_default.is) (sym (append-nil now)))
