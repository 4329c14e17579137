use Rattle.std.proofs.Common.{◌∙◌, rules, arith}
use Rattle.std.proofs.lemmas.Bool.{le-leb}
use Rattle.asn_values.specs.View.{datum_of, entries_seen}
use Rattle.asn_constraints.specs.Constraints.{meet_each}
use Rattle.asn_constraints.specs.Spelling.{spelling_of_components}
use Rattle.asn_constraints.specs.View.{components_seen}
use Rattle.asn_constraints.proofs.Spelt.{too_few_spelt, spelt_not, spelt_on, spelt_sequence, spelt_list, spelt_alternative, spelt_no_alternative}
use Rattle.asn_constraints.proofs.spelling.+spelling.Goals as goal

pub alternative_is_spelt-returns-then-alternatives-index : goal.alternative_is_spelt-returns-then-alternatives-index
alternative_is_spelt-returns-then-alternatives-index t c =
    le-leb _ _ c.if-alternatives-index.true ∙ spelt_no_alternative c.args.alternatives.now c.args.index (datum_of c.args.chosen.now) c.if-alternatives-index.true

pub alternative_is_spelt-returns-else-alternatives-index : goal.alternative_is_spelt-returns-else-alternatives-index
alternative_is_spelt-returns-else-alternatives-index t c =
    c.judge_spelling.ensures ∙ spelt_alternative c.args.alternatives.now c.args.index c.index-alternatives-index.result (datum_of c.args.chosen.now) c.if-alternatives-index.false c.index-alternatives-index.is

pub entries_are_spelt-returns-then-entries-components : goal.entries_are_spelt-returns-then-entries-components
entries_are_spelt-returns-then-entries-components t c = too_few_spelt c.args.components.now c.args.entries.now c.if-entries-components.true

pub entries_are_spelt-returns-then-not-entry_is_spelt : goal.entries_are_spelt-returns-then-not-entry_is_spelt
entries_are_spelt-returns-then-not-entry_is_spelt t c =
    spelt_not c.args.components.now c.args.entries.now c.loop-index.index c.index-components-index.result c.index-entries-index.result c.entry_is_spelt.result
    (meet_each (spelling_of_components (components_seen c.args.components.now)) (entries_seen c.args.entries.now))
    (omega arith) (omega arith) c.index-components-index.is c.index-entries-index.is c.entry_is_spelt.ensures (search rules) c.loop-index.invariant

pub entries_are_spelt-loop-index-preserved : goal.entries_are_spelt-loop-index-preserved
entries_are_spelt-loop-index-preserved t c =
    spelt_on c.args.components.now c.args.entries.now c.loop-index.index c.index-components-index.result c.index-entries-index.result c.entry_is_spelt.result
    (meet_each (spelling_of_components (components_seen c.args.components.now)) (entries_seen c.args.entries.now))
    (omega arith) (omega arith) c.index-components-index.is c.index-entries-index.is c.entry_is_spelt.ensures (search rules) c.loop-index.invariant

pub judge_spelling-returns-in-Seq : goal.judge_spelling-returns-in-Seq
judge_spelling-returns-in-Seq t c =
    spelt_sequence c.args.constraint.now c.args.value.now c.in-Components.components c.in-Seq.entries c.in-Components.is c.in-Seq.is
    c.deref-in-Seq.result.now c.deref-in-Seq-2.result.now c.deref-in-Seq.ensures.value c.deref-in-Seq-2.ensures.value
    c.entries_are_spelt.result c.entries_are_spelt.ensures

pub judge_spelling-returns-in-List : goal.judge_spelling-returns-in-List
judge_spelling-returns-in-List t c =
    spelt_list c.args.constraint.now c.args.value.now c.in-Elements.inner c.in-List.elements c.in-Elements.is c.in-List.is
    c.deref-in-List.result.now c.deref-in-List-2.result.now c.deref-in-List.ensures c.deref-in-List-2.ensures.value
    c.elements_are_spelt.result c.elements_are_spelt.ensures
