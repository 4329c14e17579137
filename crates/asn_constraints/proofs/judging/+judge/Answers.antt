use Rattle.std.proofs.Common.{◌∙◌}
use Rattle.std.specs.Bool.{one_answer}
use Rattle.std.proofs.lemmas.Bool.{le-ltb}
use Rattle.asn_values.specs.Equality.{datum_eq, datum_eq-Decides}
use Rattle.asn_values.specs.View.{datum_of}
use Rattle.asn_constraints.proofs.Views.{meets_except, meets_sequence, meets_list, meets_some_present, too_few, meets_alternative, meets_no_alternative}
use Rattle.asn_constraints.proofs.judging.+judge.Goals as goal

pub judge-returns-in-Except : goal.judge-returns-in-Except
judge-returns-in-Except t c =
    let left = datum_of c.in-Except.default in
    let right = datum_of c.args.value.now in
    meets_except c.args.constraint.now c.in-Except.default right c.same.result c.in-Except.is (one_answer c.same.result (datum_eq left right) c.same.ensures (datum_eq-Decides left right))

pub judge-returns-in-Seq : goal.judge-returns-in-Seq
judge-returns-in-Seq t c =
    meets_sequence c.args.constraint.now c.args.value.now c.in-Components.components c.in-Seq.entries c.in-Components.is c.in-Seq.is
    c.deref-in-Seq.result.now c.deref-in-Seq-2.result.now c.deref-in-Seq.ensures.value c.deref-in-Seq-2.ensures.value
    c.entries_meet.result c.entries_meet.ensures

pub judge-returns-in-Seq-value : goal.judge-returns-in-Seq-value
judge-returns-in-Seq-value t c =
    meets_some_present c.args.constraint.now c.args.value.now c.in-Seq-value.entries c.in-SomePresent.is c.in-Seq-value.is c.deref-in-Seq-value.result.now c.deref-in-Seq-value.ensures.value
    c.is_one_present.result c.is_one_present.ensures

pub judge-returns-in-List : goal.judge-returns-in-List
judge-returns-in-List t c =
    meets_list c.args.constraint.now c.args.value.now c.in-Elements.inner c.in-List.elements c.in-Elements.is c.in-List.is
    c.deref-in-List.result.now c.deref-in-List-2.result.now c.deref-in-List.ensures c.deref-in-List-2.ensures.value
    c.elements_meet.result c.elements_meet.ensures

pub entries_meet-returns-then-entries-components : goal.entries_meet-returns-then-entries-components
entries_meet-returns-then-entries-components t c = too_few c.args.components.now c.args.entries.now c.if-entries-components.true

pub alternative_meets-returns-then-index-alternatives : goal.alternative_meets-returns-then-index-alternatives
alternative_meets-returns-then-index-alternatives t c =
    c.judge.ensures ∙ meets_alternative c.args.alternatives.now c.args.index c.index-alternatives-index.result (datum_of c.args.chosen.now) c.if-index-alternatives.true c.index-alternatives-index.is

pub alternative_meets-returns-else-index-alternatives : goal.alternative_meets-returns-else-index-alternatives
alternative_meets-returns-else-index-alternatives t c =
    le-ltb c.args.index _ c.if-index-alternatives.false ∙ meets_no_alternative c.args.alternatives.now c.args.index (datum_of c.args.chosen.now) c.if-index-alternatives.false
