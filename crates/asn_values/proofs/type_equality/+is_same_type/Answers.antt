use Rattle.asn_values.proofs.SameTypes.{other_root, by_additions, other_choice, by_added_alternatives}
use Rattle.asn_values.proofs.type_equality.+is_same_type.Goals as goal

pub is_same_type-returns-else-are_same_fields : goal.is_same_type-returns-else-are_same_fields
is_same_type-returns-else-are_same_fields t c =
    other_root c.args.left.now c.args.right.now c.in-Seq.root c.in-Seq-right.fields c.in-Seq.ext c.in-Seq-right.more c.in-Seq.is c.in-Seq-right.is
    c.deref-in-Seq-right.result.now c.deref-in-Seq-right-2.result.now c.deref-in-Seq-right.ensures.value c.deref-in-Seq-right-2.ensures.value
    c.are_same_fields.result c.are_same_fields.ensures c.if-are_same_fields.false

pub is_same_type-returns-in-Some-Some : goal.is_same_type-returns-in-Some-Some
is_same_type-returns-in-Some-Some t c =
    by_additions c.args.left.now c.args.right.now c.in-Seq.root c.in-Seq-right.fields c.in-Seq.ext c.in-Seq-right.more c.in-Seq.is c.in-Seq-right.is
    c.deref-in-Seq-right.result.now c.deref-in-Seq-right-2.result.now c.deref-in-Seq-right.ensures.value c.deref-in-Seq-right-2.ensures.value
    (c.are_same_fields.ensures.0 c.if-are_same_fields.true)
    c.in-Some-Some.added c.in-Some-Some.others c.in-Some-Some.is-0 c.in-Some-Some.is-1
    c.deref-in-Some-Some.result.now c.deref-in-Some-Some-2.result.now c.deref-in-Some-Some.ensures.value c.deref-in-Some-Some-2.ensures.value
    c.are_same_fields-in-Some-Some.result c.are_same_fields-in-Some-Some.ensures

pub is_same_type-returns-else-are_same_alternatives : goal.is_same_type-returns-else-are_same_alternatives
is_same_type-returns-else-are_same_alternatives t c =
    other_choice c.args.left.now c.args.right.now c.in-Choice.root c.in-Choice-right.alternatives c.in-Choice.ext c.in-Choice-right.more c.in-Choice.is c.in-Choice-right.is
    c.deref-in-Choice-right.result.now c.deref-in-Choice-right-2.result.now c.deref-in-Choice-right.ensures.value c.deref-in-Choice-right-2.ensures.value
    c.are_same_alternatives.result c.are_same_alternatives.ensures c.if-are_same_alternatives.false

pub is_same_type-returns-in-Some-Some-2 : goal.is_same_type-returns-in-Some-Some-2
is_same_type-returns-in-Some-Some-2 t c =
    by_added_alternatives c.args.left.now c.args.right.now c.in-Choice.root c.in-Choice-right.alternatives c.in-Choice.ext c.in-Choice-right.more c.in-Choice.is c.in-Choice-right.is
    c.deref-in-Choice-right.result.now c.deref-in-Choice-right-2.result.now c.deref-in-Choice-right.ensures.value c.deref-in-Choice-right-2.ensures.value
    (c.are_same_alternatives.ensures.0 c.if-are_same_alternatives.true)
    c.in-Some-Some-2.added c.in-Some-Some-2.others c.in-Some-Some-2.is-0 c.in-Some-Some-2.is-1
    c.deref-in-Some-Some-2-2.result.now c.deref-in-Some-Some-2-3.result.now c.deref-in-Some-Some-2-2.ensures.value c.deref-in-Some-Some-2-3.ensures.value
    c.are_same_alternatives-in-Some-Some-2.result c.are_same_alternatives-in-Some-Some-2.ensures
