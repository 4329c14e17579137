use Rattle.asn_values.proofs.Views.{same_sequences}
use Rattle.asn_values.proofs.Elements.{same_lists}
use Rattle.asn_values.proofs.equality.+same.Goals as goal

pub same-returns-in-Seq-right : goal.same-returns-in-Seq-right
same-returns-in-Seq-right t c =
    same_sequences c.args.left.now c.args.right.now c.in-Seq.entries c.in-Seq-right.others c.in-Seq.is c.in-Seq-right.is
    c.deref-in-Seq-right.result.now c.deref-in-Seq-right-2.result.now c.deref-in-Seq-right.ensures.value c.deref-in-Seq-right-2.ensures.value
    c.same_entries.result c.same_entries.ensures

pub same-returns-in-List-right : goal.same-returns-in-List-right
same-returns-in-List-right t c =
    same_lists c.args.left.now c.args.right.now c.in-List.elements c.in-List-right.others c.in-List.is c.in-List-right.is
    c.deref-in-List-right.result.now c.deref-in-List-right-2.result.now c.deref-in-List-right.ensures.value c.deref-in-List-right-2.ensures.value
    c.same_elements.result c.same_elements.ensures
