use Rattle.asn_values.specs.Datum.{truth, number, item}
use Rattle.asn_bits.proofs.Above.{kept}
use Rattle.asn_plan.proofs.NodeKinds.{number_is, truth_is, item_is, leaf_is}
use Rattle.asn_plan.proofs.packed.build_number.Goals as goal

pub returns-in-Number : goal.returns-in-Number
returns-in-Number g c t us good p =
    let is = number_is c.args.nodes.now t c.in-Number.number (rw c.in-Number.is at p) in
    let z = c.in_ok-integer.integer in
    let of_z = c.in_ok-integer.ensures.of_integers in
    rw is (record { value = number z; of_value = rw (kept z of_z.0 of_z.1) at c.in_ok-part.ensures; read = c.in_ok-integer.ensures.some us })

pub returns-in_ok-part-in-Truth : goal.returns-in_ok-part-in-Truth
returns-in_ok-part-in-Truth g c t us good p =
    let is = truth_is c.args.nodes.now t (rw c.in-Truth.is at p) in
    rw is (record { value = truth c.in_ok-is_true-in-Truth.is_true; of_value = c.in_ok-part-in-Truth.ensures; read = c.in_ok-is_true-in-Truth.ensures us })

pub returns-in_ok-part-in-Item : goal.returns-in_ok-part-in-Item
returns-in_ok-part-in-Item g c t us good p =
    let is = item_is c.args.nodes.now t c.in-Item.items (rw c.in-Item.is at p) in
    rw is (record { value = item c.in_ok-position-in-Item.position; of_value = c.in_ok-part-in-Item.ensures; read = c.in_ok-position-in-Item.ensures us })

pub returns-in_ok-part-in-Leaf : goal.returns-in_ok-part-in-Leaf
returns-in_ok-part-in-Leaf g c t us good p =
    let is = leaf_is c.args.nodes.now t c.in-Leaf.leaf (rw c.in-Leaf.is at p) in
    let s = c.in_ok-number-in-Leaf.ensures t good (rw c.in-Some.is at is.1) in
    record { value = s.value; of_value = c.in_ok-part-in-Leaf.ensures s.value s.is; read = s.read us }
