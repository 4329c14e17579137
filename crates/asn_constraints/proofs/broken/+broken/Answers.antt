use Rattle.std.proofs.Common.{◌∷◌, ◌∙◌, ap, arith, reverse, refl}
use Rattle.asn_values.specs.View.{datum_of}
use Rattle.asn_constraints.specs.View.{alternatives_seen}
use Rattle.asn_constraints.specs.Broken.{not_allowed}
use Rattle.asn_constraints.proofs.Places.{finds_first, finds_second, finds_sequence, too_few_parts, finds_entry, finds_element, finds_alternative, alternative_is_met, all_entries, all_elements, right_next, meet_next}
use Rattle.asn_constraints.proofs.broken.+broken.Goals as goal

pub first_broken-returns-in-Some : goal.first_broken-returns-in-Some
first_broken-returns-in-Some t c =
    finds_first c.args.constraint.now c.in-Both.first c.in-Both.second c.deref.result.now (datum_of c.args.value.now) c.in_ok-broken-in-Both.field-0 c.in-Some.broken
    c.in-Both.is c.deref.ensures c.in-Some.is c.in_ok-broken-in-Both.ensures

pub first_broken-returns-in-None : goal.first_broken-returns-in-None
first_broken-returns-in-None t c =
    finds_second c.args.constraint.now c.in-Both.first c.in-Both.second c.deref.result.now c.deref-in-None.result.now (datum_of c.args.value.now) c.in_ok-broken-in-Both.field-0 c.first_broken-in-None.result
    c.in-Both.is c.deref.ensures c.deref-in-None.ensures c.in-None.is c.in_ok-broken-in-Both.ensures c.first_broken-in-None.ensures

pub first_broken-returns-in-Seq : goal.first_broken-returns-in-Seq
first_broken-returns-in-Seq t c =
    finds_sequence c.args.constraint.now c.args.value.now c.in-Components.components c.in-Seq.entries c.in-Components.is c.in-Seq.is
    c.deref-in-Seq.result.now c.deref-in-Seq-2.result.now c.deref-in-Seq.ensures.value c.deref-in-Seq-2.ensures.value
    c.broken_component.result c.broken_component.ensures

pub broken_component-returns-then-entries-components : goal.broken_component-returns-then-entries-components
broken_component-returns-then-entries-components t c =
    rw (ap reverse c.here.ensures.path, c.here.ensures.reason) (too_few_parts c.args.components.now c.args.entries.now c.if-entries-components.true)

pub broken_component-returns-in-Some : goal.broken_component-returns-in-Some
broken_component-returns-in-Some t c =
    finds_entry c.args.components.now c.args.entries.now c.loop-index.index c.index-components-index.result c.index-entries-index.result c.in_ok-broken.field-0 c.in-Some.broken c.in_ok-at.field-0
    (omega arith) (omega arith) c.loop-index.invariant c.index-components-index.is c.index-entries-index.is c.in-Some.is c.in_ok-broken.ensures
    c.in_ok-at.ensures.path c.in_ok-at.ensures.reason

pub broken_component-loop-index-preserved : goal.broken_component-loop-index-preserved
broken_component-loop-index-preserved t c =
    right_next c.loop-index.index c.args.components.now c.args.entries.now c.index-components-index.result c.index-entries-index.result c.in_ok-broken.field-0
    (omega arith) (omega arith) c.index-components-index.is c.index-entries-index.is c.loop-index.invariant c.in_default.is c.in_ok-broken.ensures

pub broken_component-returns : goal.broken_component-returns
broken_component-returns t c = all_entries c.loop-index.index c.args.components.now c.args.entries.now c.loop-index-test.false c.if-entries-components.false c.loop-index.invariant

pub broken_element-returns-in-Some : goal.broken_element-returns-in-Some
broken_element-returns-in-Some t c =
    finds_element c.args.constraint.now c.args.elements.now c.loop-index.index c.index-elements-index.result c.in_ok-broken.field-0 c.in-Some.broken c.in_ok-at.field-0
    (omega arith) c.loop-index.invariant c.index-elements-index.is c.in-Some.is c.in_ok-broken.ensures
    c.in_ok-at.ensures.path c.in_ok-at.ensures.reason

pub broken_element-loop-index-preserved : goal.broken_element-loop-index-preserved
broken_element-loop-index-preserved t c =
    meet_next c.args.constraint.now c.args.elements.now c.loop-index.index c.index-elements-index.result c.in_ok-broken.field-0
    (omega arith) c.index-elements-index.is c.loop-index.invariant c.in_default.is c.in_ok-broken.ensures

pub broken_element-returns : goal.broken_element-returns
broken_element-returns t c = all_elements c.args.constraint.now c.args.elements.now c.loop-index.index c.loop-index-test.false c.loop-index.invariant

pub broken_alternative-returns-then-is_barred : goal.broken_alternative-returns-then-is_barred
broken_alternative-returns-then-is_barred t c =
    rw (c.in_ok-at.ensures.path ∙ ap (λ p. c.args.index ∷ reverse p) c.here.ensures.path, c.in_ok-at.ensures.reason ∙ c.here.ensures.reason)
    (not_allowed (alternatives_seen c.args.alternatives.now) c.args.index (datum_of c.args.chosen.now) (c.if-is_barred.ensures.barred refl))

pub broken_alternative-returns-in_ok-at-in-Some : goal.broken_alternative-returns-in_ok-at-in-Some
broken_alternative-returns-in_ok-at-in-Some t c =
    finds_alternative c.args.alternatives.now c.args.index c.index-alternatives-index.result (datum_of c.args.chosen.now) c.in_ok-first_broken.field-0 c.in-Some.broken c.in_ok-at-in-Some.field-0
    (omega arith) c.index-alternatives-index.is c.in-Some.is c.in_ok-first_broken.ensures
    c.in_ok-at-in-Some.ensures.path c.in_ok-at-in-Some.ensures.reason

pub broken_alternative-returns-in-None : goal.broken_alternative-returns-in-None
broken_alternative-returns-in-None t c =
    alternative_is_met c.args.alternatives.now c.args.index c.index-alternatives-index.result (datum_of c.args.chosen.now) c.in_ok-first_broken.field-0
    (omega arith) c.index-alternatives-index.is c.in-None.is c.in_ok-first_broken.ensures
