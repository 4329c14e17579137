use Rattle.std.proofs.Common.{◌≡◌, ◌<◌, ◌/◌, ◌%◌, ◌^◌, refl, sym, ap, ◌∙◌, ℕ, List, Some, None, inl, inr, length, arith, ◌-◌, [], true, false}
use Rattle.std.proofs.lemmas.List.{drop_all, nil_from_length}
use Rattle.asn_values.specs.Datum.{truth, number, item, alternative}
use Rattle.asn_values.specs.Profile.{InProfile}
use Rattle.asn_values.specs.Shape.{Shape, Fields, no_fields, demands, sequence, sequence_of, choice}
use Rattle.asn_values.specs.View.{size_range_of}
use Rattle.asn_values.proofs.InnerTypes.{element_of_profile}
use Rattle.asn_values.proofs.Parts.{components_of_profile}
use Rattle.asn_values.proofs.Views.{shape_of-Bool}
use Rattle.asn_bits.proofs.Above.{kept}
use Rattle.asn_bits.specs.Sink.{bit_of}
use Rattle.asn_rules.specs.Languages.{Spells}
use Rattle.asn_rules.specs.Laws.{AreOctets}
use Rattle.asn_rules.specs.Listed.{Spelt}
use Rattle.asn_walk.specs.Ahead.{Next}
use Rattle.asn_walk.specs.Coding.{IndexOf, PreambleOf}
use Rattle.asn_walk.specs.Views.{preamble_seen}
use Rattle.asn_walk.proofs.OpenRead.{content_of}
use Rattle.asn_walk.proofs.Parts.{root_good}
use Rattle.asn_plan.proofs.Additions.{present_addition, absent_addition, added_starts, added_further, added_ends, additions_read, extended_read, plans_count}
use Rattle.asn_plan.proofs.Alternatives.{alternative_at, each_count, root_count, root_read, added_read}
use Rattle.asn_plan.proofs.Building.{next_node, built_further, goes_ends, absents_are, no_root, no_additions, sequence_read}
use Rattle.asn_plan.proofs.Entries.{must_entry, present_entry, absent_entry}
use Rattle.asn_plan.proofs.Messages.{field_read, turned_true, turned_false, whole_here}
use Rattle.asn_plan.proofs.NodeKinds.{if_some, number_is, truth_is, item_is, leaf_is, sequence_is, list_is, choice_is}
use Rattle.asn_plan.specs.Nothing.{only_value}
use Rattle.asn_plan.proofs.Nothings.{only_octets, nothing_taken}
use Rattle.asn_plan.proofs.Rows.{row_begins, row_further, listed_starts, listed_further, listed_ends, list_read, counted_read, started_read}
use Rattle.asn_plan.specs.declared.plan.Kind.TheVariants as kind
use Rattle.asn_plan.specs.Plans.{IsPlan, Builds}
use Rattle.asn_plan.specs.Words.{before}
use Rattle.asn_plan.proofs.WordsTaken.{nothing_left}
use Rattle.asn_plan.proofs.+walk.Goals as goal
use Rattle.asn_plan.proofs.+walk.Goals.{component::build_component-in-Must, component::build_component-in-Optional+else-presence-eq0+else-not-next}

pub walk::build_at-returns-in-Some-clause-some : goal.walk::build_at-returns-in-Some-clause-some
walk::build_at-returns-in-Some-clause-some g t c s good p =
    let n = c.in-Number.number in
    let is = number_is c.args.nodes.now s n (rw c.in-Number.is at p) in
    let z = c.in-Some.integer in
    let of_z = c.in-Some.ensures.of_integers in
    rw is (record { value = number z; of_value = rw (kept z of_z.0 of_z.1) at c.in_ok-part-in-Number.ensures; read = c.in-Some.ensures.some })

pub walk::build_at-returns-in_default-clause-some : goal.walk::build_at-returns-in_default-clause-some
walk::build_at-returns-in_default-clause-some g t c = if_some c.build_ranged.result _ _ (λ p built s good plan. (
    let is = number_is c.args.nodes.now s c.in-Number.number (rw c.in-Number.is at plan) in
    let still : c.try_ranged.new.units ≡ c.args.units.now = c.in_default.ensures.none refl in
    rw is (rw still at built))) c.build_ranged.ensures.some

pub walk::build_at-returns-in-Some-try_truth-clause-some : goal.walk::build_at-returns-in-Some-try_truth-clause-some
walk::build_at-returns-in-Some-try_truth-clause-some g t c s good p =
    let is = truth_is c.args.nodes.now s (rw c.in-Truth.is at p) in
    rw is (record { value = truth c.in-Some-try_truth.is_true; of_value = c.in_ok-part-in-Truth.ensures; read = c.in-Some-try_truth.ensures.some })

pub walk::build_at-returns-in-Some-try_item-clause-some : goal.walk::build_at-returns-in-Some-try_item-clause-some
walk::build_at-returns-in-Some-try_item-clause-some g t c s good p =
    let is = item_is c.args.nodes.now s c.in-Item.items (rw c.in-Item.is at p) in
    rw is (record { value = item c.in-Some-try_item.position; of_value = c.in_ok-part-in-Item.ensures; read = c.in-Some-try_item.ensures.some })

pub walk::build_at-returns-in_default-try_truth-clause-some : goal.walk::build_at-returns-in_default-try_truth-clause-some
walk::build_at-returns-in_default-try_truth-clause-some g t c = if_some c.build_other.result _ _ (λ p built s good plan. (
    let is = truth_is c.args.nodes.now s (rw c.in-Truth.is at plan) in
    let still : c.try_truth.new.units ≡ c.args.units.now = c.in_default-try_truth.ensures.none refl in
    rw is (rw (still, shape_of-Bool) at built))) c.build_other.ensures.some

pub walk::build_at-returns-in_default-try_item-clause-some : goal.walk::build_at-returns-in_default-try_item-clause-some
walk::build_at-returns-in_default-try_item-clause-some g t c = if_some c.build_other-in-Item.result _ _ (λ p built s good plan. (
    let is = item_is c.args.nodes.now s c.in-Item.items (rw c.in-Item.is at plan) in
    let still : c.try_item.new.units ≡ c.args.units.now = c.in_default-try_item.ensures.none refl in
    rw is (rw still at built))) c.build_other-in-Item.ensures.some

pub walk::build_at-returns-in-Leaf-clause-some : goal.walk::build_at-returns-in-Leaf-clause-some
walk::build_at-returns-in-Leaf-clause-some g t c = if_some c.build_leaf.result _ _ (λ p built s good plan. built s good (leaf_is c.args.nodes.now s c.in-Leaf.leaf (rw c.in-Leaf.is at plan))) c.build_leaf.ensures.some

pub components::build_sequence-returns-then-parts-gt0-clause-some : goal.components::build_sequence-returns-then-parts-gt0-clause-some
components::build_sequence-returns-then-parts-gt0-clause-some g t c s good p =
    let r = g.R.ReadLeaves.rules in
    let some : 0 < c.args.parts.now.entries = omega (arith, c.if-parts-gt0.true) in
    let h = (sequence_is c.args.nodes.now s c.args.parts.now p).entries some in
    record { value = only_value s; of_value = c.in_ok-part.ensures (only_value s) (sym h.1) (only_octets s); read = nothing_taken r false c.keep_nothing.ensures s good h.0 (r.to_units c.args.units.now) }

pub components::build_sequence-returns-then-single_is_empty-clause-some : goal.components::build_sequence-returns-then-single_is_empty-clause-some
components::build_sequence-returns-then-single_is_empty-clause-some g t c s good p =
    let r = g.R.ReadLeaves.rules in
    let some : 0 < c.args.parts.now.single_entries = omega (arith, c.if-parts-gt0-2.true) in
    let h = (sequence_is c.args.nodes.now s c.args.parts.now p).single some in
    record { value = only_value s; of_value = c.in_ok-part-2.ensures (only_value s) (sym h.1) (only_octets s); read = nothing_taken r true (c.single_is_empty.ensures c.if-single_is_empty.true) s good h.0 (r.to_units c.args.units.now) }

pub components::build_sequence-returns-then-parts-3-clause-some : goal.components::build_sequence-returns-then-parts-3-clause-some
components::build_sequence-returns-then-parts-3-clause-some g t c s good p =
    let rows = c.args.parts.now in
    let q = sequence_is c.args.nodes.now s rows p in
    let root : q.root ≡ no_fields = no_root _ c.args.nodes.now rows.begin rows.middle q.root (omega (arith, c.if-parts-2.false, c.if-parts-3.true)) q.plans in
    let others = no_additions _ c.args.nodes.now rows.middle rows.end q.more (omega (arith, c.if-parts.false, c.if-parts-3.true)) q.others in
    let is : s ≡ sequence no_fields q.more = q.is ∙ ap (λ (fs : Fields). sequence fs q.more) root in
    rw is (c.in_ok-empty.ensures.some q.more (rw is at good) others q.additions)

pub components::build_components-loop-part-preserved : goal.components::build_components-loop-part-preserved
components::build_components-loop-part-preserved g t c =
    let r = g.R.ReadLeaves.rules in
    let next = rw c.in-Some.is at c.split_first.ensures.cases in
    let h = rw next.0 at c.loop-part.invariant.0 in
    let N = g.B.Build.listed c.args.room.now c.build_component.new.room c.build_component.new.entries in
    let b = c.in_ok-build_component.ensures in
    let entry = rw c.loop-part.invariant.1 at b.some refl c.args.room.now in
    (built_further N c.build_component.new.presence.left (before r c.build_component.new.word (r.to_units c.build_component.new.units)) h entry, b.bitmap refl ∙ c.loop-part.invariant.1, b.at_unit refl)

pub components::build_components-returns-clause-some : goal.components::build_components-returns-clause-some
components::build_components-returns-clause-some g t c root good p width =
    let r = g.R.ReadLeaves.rules in
    let e = c.loop-part.invariant.0.goes root good p width in
    let all = goes_ends e.2 (nil_from_length c.loop-part.rest.now (rw c.in_default.is at c.split_first.ensures.cases)) in
    let none = nothing_left r c.loop-part.word (r.to_units c.loop-part.units) (c.is_empty.ensures c.if-not-is_empty.false) in
    record { entries = e.0; of_entries = e.1; read = rw none at all }

pub component::build_component-returns-then-not-next-clause-some : goal.component::build_component-returns-then-not-next-clause-some
component::build_component-returns-then-not-next-clause-some g t c some s =
    let r = g.R.ReadLeaves.rules in
    let us = before r c.args.word.now (r.to_units c.args.units.now) in
    let bit : 0 ≡ c.args.presence.now.bitmap / 2 ^ c.next.new.self.left % 2 = ap bit_of (sym c.if-not-next.true) ∙ c.next.ensures.bit.1 in
    absent_entry r (g.B.Build.listed s c.args.room.now c.args.entries.now) (g.B.Build.listed s c.absent.new.room c.absent.new.entries) c.args.nodes.now c.args.part.now c.args.presence.now.bitmap c.args.presence.now.left us us (λ es l. c.absent.ensures some s es l) c.next.new.self.left c.next.ensures.bit.0 c.in-Optional.is bit refl

pub component::build_component-returns-in-Default-clause-some : goal.component::build_component-returns-in-Default-clause-some
component::build_component-returns-in-Default-clause-some g t c some s = c.build_with_default.ensures.some some s

pub component::build_component-returns-clause-some : goal.component::build_component-returns-clause-some
component::build_component-returns-clause-some g t c some s =
    let r = g.R.ReadLeaves.rules in
    let P = g.B.Build.listed s c.args.room.now c.args.entries.now in
    let N = g.B.Build.listed s c.present.new.room c.present.new.entries in
    let us = before r c.args.word.now (r.to_units c.args.units.now) in
    let vs = before r c.build_value.new.word (r.to_units c.build_value.new.units) in
    let Q = g.B.Build.built c.args.room.now c.build_value.new.room c.in_ok-value.value in
    elim c.match-part.branch [
      | component::build_component-in-Must w ↦ rw w.presence-is (must_entry r P N c.args.nodes.now c.args.part.now c.args.presence.now.bitmap c.args.presence.now.left us vs Q (λ es d l q. c.present.ensures some s c.args.room.now es d l q) w.in-Must.is (λ t good p. (let b = c.in_ok-value.ensures.some t good p in (b.value, b.of_value, b.read))))
      | component::build_component-in-Optional+else-presence-eq0+else-not-next w ↦ (let bit : 1 ≡ c.args.presence.now.bitmap / 2 ^ w.next.new.self.left % 2 = ap bit_of (sym w.if-not-next.false) ∙ w.next.ensures.bit.1 in rw w.presence-is (present_entry r P N c.args.nodes.now c.args.part.now c.args.presence.now.bitmap c.args.presence.now.left us vs Q (λ es d l q. c.present.ensures some s c.args.room.now es d l q) w.next.new.self.left w.next.ensures.bit.0 w.in-Optional.is bit (λ t good p. (let b = c.in_ok-value.ensures.some t good p in (b.value, b.of_value, b.read)))))
    ]

pub component::build_value-returns-then-is_empty-clause-some : goal.component::build_value-returns-then-is_empty-clause-some
component::build_value-returns-then-is_empty-clause-some g t c =
    let r = g.R.ReadLeaves.rules in
    let none = λ (us : List ℕ). nothing_left r c.fill.new.word us (c.is_empty.ensures c.if-is_empty.true) in
    if_some c.build_at.result _ _ (λ p built s good plan. (let b = built s good plan in record { value = b.value; of_value = b.of_value; read = rw (c.fill.ensures.same, none (r.to_units c.fill.new.units), none (r.to_units c.build_at.new.units)) b.read })) c.build_at.ensures.some

pub component::build_value-returns-clause-some : goal.component::build_value-returns-clause-some
component::build_value-returns-clause-some g t c =
    if_some c.build_next.result _ _ (λ p built s good plan. rw c.fill.ensures.same (built s good plan)) c.build_next.ensures.some

pub components::build_parts-returns-then-not-preamble-clause-some : goal.components::build_parts-returns-then-not-preamble-clause-some
components::build_parts-returns-then-not-preamble-clause-some g t c fields more good plans others width additions =
    let r = g.R.ReadLeaves.rules in
    let told : Spells r.ruling.fielding (PreambleOf r c.args.parts.now.width c.args.parts.now.additions) (preamble_seen c.in_ok-preamble.preamble) (r.to_units c.args.units.now) (before r c.read_preamble.new.word (r.to_units c.read_preamble.new.units)) = rw (← c.take_word-word.ensures.taken) at c.in_ok-preamble.ensures.some in
    let es = c.in_ok-entries.ensures.some fields (components_of_profile fields more good) plans width in
    let all = c.in_ok-add_absents.ensures refl c.args.room.now es.entries es.of_entries in
    (record { value = _; of_value = c.in_ok-whole.ensures c.args.room.now _ all; read = sequence_read r c.keep_laws.ensures fields more good c.args.parts.now.width c.args.parts.now.additions width additions (preamble_seen c.in_ok-preamble.preamble) (r.to_units c.args.units.now) (before r c.read_preamble.new.word (r.to_units c.read_preamble.new.units)) (r.to_units c.build_components.new.units) told es.entries es.read (turned_true c.in_ok-preamble.preamble.extended c.if-not-preamble.true) _ (absents_are _ _ more others) })

pub components::build_parts-returns-clause-some : goal.components::build_parts-returns-clause-some
components::build_parts-returns-clause-some g t c fields more good plans others width additions =
    let r = g.R.ReadLeaves.rules in
    let told : Spells r.ruling.fielding (PreambleOf r c.args.parts.now.width c.args.parts.now.additions) (preamble_seen c.in_ok-preamble.preamble) (r.to_units c.args.units.now) (before r c.read_preamble.new.word (r.to_units c.read_preamble.new.units)) = rw (← c.take_word-word.ensures.taken) at c.in_ok-preamble.ensures.some in
    let es = c.in_ok-entries.ensures.some fields (components_of_profile fields more good) plans width in
    let all = extended_read r c.keep_laws.ensures fields more good c.args.parts.now.width c.args.parts.now.additions width additions (preamble_seen c.in_ok-preamble.preamble) (r.to_units c.args.units.now) (before r c.read_preamble.new.word (r.to_units c.read_preamble.new.units)) (r.to_units c.build_components.new.units) (r.to_units c.build_additions.new.units) told es.entries es.read (turned_false c.in_ok-preamble.preamble.extended c.if-not-preamble.false) _ _ others (g.B.Build.listed c.args.room.now c.build_components.new.room c.in_ok-entries.entries) (g.B.Build.listed c.args.room.now c.build_additions.new.room c.build_additions.new.entries) es.of_entries (λ fs a plans. c.in_ok-build_additions.ensures.some refl c.args.room.now fs a plans) in
    (record { value = _; of_value = c.in_ok-part.ensures c.args.room.now all.0 all.1; read = all.2 })

pub components::build_sequence-returns-clause-some : goal.components::build_sequence-returns-clause-some
components::build_sequence-returns-clause-some g t c = if_some c.build_parts.result _ _ (λ p built s good plan. (
    let q = sequence_is c.args.nodes.now s c.args.parts.now plan in
    rw q.is (built q.root q.more (rw q.is at good) q.plans q.others q.width q.additions))) c.build_parts.ensures.some

pub components::build_sequences-loop-i-init : goal.components::build_sequences-loop-i-init
components::build_sequences-loop-i-init g t c =
    let r = g.R.ReadLeaves.rules in
    (λ s t good p. row_begins r (g.B.Build.rowed s c.args.room.now c.args.row.now) (Spelt r.code None t) (r.to_units c.args.units.now), c.requires.at_unit)

pub components::build_sequences-loop-i-preserved : goal.components::build_sequences-loop-i-preserved
components::build_sequences-loop-i-preserved g t c =
    let r = g.R.ReadLeaves.rules in
    let built = g.B.Build.built c.loop-i.room c.build_parts.new.room c.in_ok-value.value in
    let read : (t : Shape) → InProfile t → IsPlan c.args.nodes.now t (kind.Sequence c.args.parts.now) → Builds r (g.B.Build.built c.loop-i.room c.build_parts.new.room) t c.in_ok-value.value c.loop-i.units c.build_parts.new.units =
    λ t good p. (let q = sequence_is c.args.nodes.now t c.args.parts.now p in rw q.is (c.in_ok-value.ensures.some q.root q.more (rw q.is at good) q.plans q.others q.width q.additions)) in
    (λ s t good p. (let b = read t good p in row_further r (g.B.Build.rowed s c.args.room.now c.args.row.now) (g.B.Build.rowed s c.loop-i.room c.loop-i.row) (g.B.Build.rowed s c.element.new.room c.element.new.row) built (Spelt r.code None t) c.loop-i.i (r.to_units c.args.units.now) (r.to_units c.loop-i.units) (r.to_units c.build_parts.new.units) (λ ds d m q. c.in_ok-element.ensures refl s c.loop-i.room ds d m q) (c.loop-i.invariant.0 s t good p) b.value b.of_value b.read), c.in_ok-value.ensures.at_unit refl)

pub components::build_sequences-returns-clause-some : goal.components::build_sequences-returns-clause-some
components::build_sequences-returns-clause-some g t c some s x good p =
    let all : c.loop-i.i ≡ c.args.count = omega (arith, c.loop-i-test.false, c.loop-i.auto.i-end) in
    rw all at (c.loop-i.invariant.0 s x good p)

pub extensions::build_additions-returns-clause-some : goal.extensions::build_additions-returns-clause-some
extensions::build_additions-returns-clause-some g t c some s fs good plans =
    let r = g.R.ReadLeaves.rules in
    let n : length c.args.parts.now ≡ length (demands fs) = plans_count c.args.nodes.now c.args.parts.now fs plans in
    additions_read r (g.B.Build.listed s c.args.room.now c.args.entries.now) (g.B.Build.listed s c.build_open_fields.new.room c.build_open_fields.new.entries) fs (length c.args.parts.now) c.in-Ok.bitmap (r.to_units c.args.units.now) (r.to_units c.read_addition_bitmap.new.units) (r.to_units c.build_open_fields.new.units) n c.in-Ok.ensures.done (c.build_open_fields.ensures.some some s fs good plans n)

pub extensions::build_open_fields-loop-part-init : goal.extensions::build_open_fields-loop-part-init
extensions::build_open_fields-loop-part-init g t c =
    (λ s. added_starts g.R.ReadLeaves.rules (g.B.Build.listed s c.args.room.now c.args.entries.now) c.args.nodes.now c.args.parts.now c.args.presence.left c.args.presence.bitmap (g.R.ReadLeaves.rules.to_units c.args.units.now) c.requires.few, refl, c.requires.at_unit, c.requires.few)

pub extensions::build_open_fields-loop-part-preserved : goal.extensions::build_open_fields-loop-part-preserved
extensions::build_open_fields-loop-part-preserved g t c =
    let h = rw (next_node c.args.parts.now c.loop-part.part-index c.part-item.result c.loop-part-test.true c.part-item.is) at c.loop-part.invariant.0 in
    let b = c.in_ok-build_addition.ensures in
    (λ s. added_further (g.B.Build.listed s c.build_addition.new.room c.build_addition.new.entries) c.build_addition.new.presence.left (g.R.ReadLeaves.rules.to_units c.build_addition.new.units) (h s) (rw c.loop-part.invariant.1 at b.some refl s), b.bitmap refl ∙ c.loop-part.invariant.1, b.at_unit refl, omega (arith, c.loop-part.invariant.3, (b.some refl c.args.room.now).less))

pub extensions::build_open_fields-returns-clause-some : goal.extensions::build_open_fields-returns-clause-some
extensions::build_open_fields-returns-clause-some g t c some s fs good plans width =
    added_ends (c.loop-part.invariant.0 s) (drop_all c.loop-part.part-index c.args.parts.now c.loop-part-test.false) fs good plans

pub extensions::build_addition-returns-then-not-next-clause-some : goal.extensions::build_addition-returns-then-not-next-clause-some
extensions::build_addition-returns-then-not-next-clause-some g t c some s =
    let r = g.R.ReadLeaves.rules in
    let bit : 0 ≡ c.args.presence.now.bitmap / 2 ^ c.next.new.self.left % 2 = ap bit_of (sym c.if-not-next.true) ∙ c.next.ensures.bit.1 in
    absent_addition r (g.B.Build.listed s c.args.room.now c.args.entries.now) (g.B.Build.listed s c.absent.new.room c.absent.new.entries) c.args.nodes.now c.args.part.now c.args.presence.now.bitmap c.args.presence.now.left c.next.new.self.left (r.to_units c.args.units.now) (r.to_units c.args.units.now) c.next.ensures.bit.0 (λ es l. c.absent.ensures some s es l) bit refl

pub extensions::build_addition-returns-clause-some : goal.extensions::build_addition-returns-clause-some
extensions::build_addition-returns-clause-some g t c some s =
    let r = g.R.ReadLeaves.rules in
    let bit : 1 ≡ c.args.presence.now.bitmap / 2 ^ c.next.new.self.left % 2 = ap bit_of (sym c.if-not-next.false) ∙ c.next.ensures.bit.1 in
    present_addition r (g.B.Build.listed s c.args.room.now c.args.entries.now) (g.B.Build.listed s c.present.new.room c.present.new.entries) c.args.nodes.now c.args.part.now c.args.presence.now.bitmap c.args.presence.now.left c.next.new.self.left (r.to_units c.args.units.now) (r.to_units c.build_open.new.units) c.next.ensures.bit.0 (g.B.Build.built c.args.room.now c.build_open.new.room c.in_ok-value.value) (λ es d l q. c.present.ensures some s c.args.room.now es d l q) bit (λ s good p. (let b = c.in_ok-value.ensures.some s good p in (b.value, b.of_value, b.read)))

-- ---- SEQUENCE OF

pub lists::build_elements-returns-then-not-passes-clause-some : goal.lists::build_elements-returns-then-not-passes-clause-some
lists::build_elements-returns-then-not-passes-clause-some g t c some s x good p =
    c.build_sequences.ensures.some some s x good (rw c.in-Sequence.is at p)

pub lists::build_elements-loop-i-init : goal.lists::build_elements-loop-i-init
lists::build_elements-loop-i-init g t c =
    let r = g.R.ReadLeaves.rules in
    (λ s t good p. row_begins r (g.B.Build.rowed s c.args.room.now c.args.row.now) (Spelt r.code None t) (r.to_units c.args.units.now), c.requires.at_unit)

pub lists::build_elements-loop-i-preserved : goal.lists::build_elements-loop-i-preserved
lists::build_elements-loop-i-preserved g t c =
    let r = g.R.ReadLeaves.rules in
    (λ s t good p. (let b = c.in_ok-value.ensures.some t good p in row_further r (g.B.Build.rowed s c.args.room.now c.args.row.now) (g.B.Build.rowed s c.loop-i.room c.loop-i.row) (g.B.Build.rowed s c.element.new.room c.element.new.row) (g.B.Build.built c.loop-i.room c.build_at.new.room c.in_ok-value.value) (Spelt r.code None t) c.loop-i.i (r.to_units c.args.units.now) (r.to_units c.loop-i.units) (r.to_units c.build_at.new.units) (λ ds d m q. c.in_ok-element.ensures refl s c.loop-i.room ds d m q) (c.loop-i.invariant.0 s t good p) b.value b.of_value b.read), c.in_ok-value.ensures.at_unit refl)

pub lists::build_elements-returns-clause-some : goal.lists::build_elements-returns-clause-some
lists::build_elements-returns-clause-some g t c some s x good p =
    let all : c.loop-i.i ≡ c.args.count = omega (arith, c.loop-i-test.false, c.loop-i.auto.i-end) in
    rw all at (c.loop-i.invariant.0 s x good p)

pub lists::build_fragments-loop-i-init : goal.lists::build_fragments-loop-i-init
lists::build_fragments-loop-i-init g t c =
    let r = g.R.ReadLeaves.rules in
    (λ s good p. listed_starts r (g.B.Build.rowed c.args.room.now c.elements.new.room c.in_ok-row.row) s (g.R.ReadLeaves.ahead c.args.fragments) (r.to_units c.args.units.now) c.in_ok-row.ensures, c.requires.between, c.requires.at_unit)

pub lists::build_fragments-loop-i-preserved : goal.lists::build_fragments-loop-i-preserved
lists::build_fragments-loop-i-preserved g t c =
    let r = g.R.ReadLeaves.rules in
    let a = g.R.ReadLeaves.ahead in
    let next : Next r.ruling.fielding (a c.loop-i.fragments) (Some c.in-Some.count) (a c.next_fragment.new.fragments) (r.to_units c.loop-i.units) (r.to_units c.next_fragment.new.units) = rw c.in-Some.is at c.in-Ok.ensures.done in
    (λ s good p. listed_further r c.keep_laws.ensures (g.B.Build.rowed c.args.room.now c.loop-i.room c.loop-i.row) (g.B.Build.rowed c.args.room.now c.build_elements.new.room c.build_elements.new.row) s good (a c.args.fragments) (a c.loop-i.fragments) (a c.next_fragment.new.fragments) c.in-Some.count (r.to_units c.args.units.now) (r.to_units c.loop-i.units) (r.to_units c.next_fragment.new.units) (r.to_units c.build_elements.new.units) next (c.in_ok-build_elements.ensures.some refl c.args.room.now s good p) (c.loop-i.invariant.0 s good p), c.in-Ok.ensures.between, c.in_ok-build_elements.ensures.at_unit refl)

pub lists::build_fragments-returns-in_default-next-clause-some : goal.lists::build_fragments-returns-in_default-next-clause-some
lists::build_fragments-returns-in_default-next-clause-some g t c s good p =
    let r = g.R.ReadLeaves.rules in
    let a = g.R.ReadLeaves.ahead in
    let next : Next r.ruling.fielding (a c.loop-i.fragments) None (a c.next_fragment.new.fragments) (r.to_units c.loop-i.units) (r.to_units c.next_fragment.new.units) = rw c.in_default-next.is at c.in-Ok.ensures.done in
    let h = c.loop-i.invariant.0 s good p in
    record { value = h.value; of_value = h.of_value; read = listed_ends next h }

pub lists::build_counted-returns-clause-some : goal.lists::build_counted-returns-clause-some
lists::build_counted-returns-clause-some g t c s good p =
    let r = g.R.ReadLeaves.rules in
    let l = c.args.list.now in
    let q = list_is c.args.nodes.now s l c.index-nodes-list.result (omega (arith, c.if-list-nodes.false)) c.index-nodes-list.is p in
    let inside : InProfile (sequence_of q.element (size_range_of l.size)) = rw q.is at good in
    let es = c.in_ok-row.ensures.some q.element (element_of_profile q.element (size_range_of l.size) inside) q.plan in
    let all = started_read r c.keep_laws.ensures q.element (size_range_of l.size) l.of_profile (g.R.ReadLeaves.ahead c.in-Ok.fragments) (r.to_units c.args.units.now) (r.to_units c.start_list.new.units) (r.to_units c.build_fragments.new.units) c.in-Ok.ensures.done es.value es.read in
    rw q.is (record { value = _; of_value = c.in_ok-part.ensures c.args.room.now es.value es.of_value; read = list_read r c.keep_laws.ensures q.element (size_range_of l.size) inside (r.to_units c.args.units.now) (r.to_units c.build_fragments.new.units) es.value all })

pub lists::build_list-returns-in_default-clause-some : goal.lists::build_list-returns-in_default-clause-some
lists::build_list-returns-in_default-clause-some g t c = if_some c.build_counted.result _ _ (λ p built s good plan. (
    let still : c.try_count.new.units ≡ c.args.units.now = c.in_default.ensures.none refl in
    rw still at (built s good plan))) c.build_counted.ensures.some

pub lists::build_list-returns-clause-some : goal.lists::build_list-returns-clause-some
lists::build_list-returns-clause-some g t c = if_some c.list.result _ _ (λ part built s good p. (
    let r = g.R.ReadLeaves.rules in
    let l = c.args.list.now in
    let size = size_range_of l.size in
    let q = list_is c.args.nodes.now s l c.index-nodes-list.result (omega (arith, c.if-list-nodes.false)) c.index-nodes-list.is p in
    let inside : InProfile (sequence_of q.element size) = rw q.is at good in
    let element = element_of_profile q.element size inside in
    let h = c.in_ok-build_elements.ensures.some refl c.args.room.now q.element element q.plan in
    let es = h.row [] c.in_ok-row.ensures in
    let all = counted_read r c.keep_laws.ensures q.element element size l.of_profile c.in-Some.count (r.to_units c.args.units.now) (r.to_units c.try_count.new.units) (r.to_units c.build_elements.new.units) (c.in-Some.ensures.some size l.are_counts) es.0 es.2 in
    rw q.is (record { value = _; of_value = built c.args.room.now es.0 es.1; read = list_read r c.keep_laws.ensures q.element size inside (r.to_units c.args.units.now) (r.to_units c.build_elements.new.units) es.0 all }))) c.list.ensures

-- ---- CHOICE

pub choices::build_choice-returns-clause-some : goal.choices::build_choice-returns-clause-some
choices::build_choice-returns-clause-some g t c = if_some c.choice.result _ _ (λ whole built s good p. (
    let r = g.R.ReadLeaves.rules in
    let a = c.args.parts.now in
    let q = choice_is c.args.nodes.now s a p in
    let inside : InProfile (choice q.root q.more) = rw q.is at good in
    let i = c.in-Some.told in
    let x = c.index-root-place.result in
    let k = alternative_at r.ruling.fielding (λ t. Spelt r.code None t) _ _ q.root i x q.plans (root_good q.root q.more inside) (omega (arith, c.if-place-root.false)) in
    let b = c.in_ok-part.ensures.some k.shape k.good k.plan in
    let told = c.in-Some.ensures.some (a.middle - a.begin) a.additions a.are_indexes in
    let many = root_count c.args.nodes.now a.begin a.middle q.root q.order q.inside (each_count _ _ q.root q.plans) in
    rw q.is (record { value = alternative i b.value; of_value = built c.args.room.now c.choosing.new.room b.value c.in_ok-chosen.ensures b.of_value; read = root_read r c.keep_laws.ensures q.root q.more inside (a.middle - a.begin) a.additions many q.additions i (r.to_units c.args.units.now) (r.to_units c.try_index.new.units) (r.to_units c.build_at.new.units) told b.value (k.on b.value _ _ b.read) }))) c.choice.ensures

pub choices::build_choice-returns-in_default-clause-some : goal.choices::build_choice-returns-in_default-clause-some
choices::build_choice-returns-in_default-clause-some g t c = if_some c.build_chosen.result _ _ (λ p built s good plan. (
    let still : c.try_index.new.units ≡ c.args.units.now = c.in_default.ensures.none refl in
    rw still at (built s good plan))) c.build_chosen.ensures.some

pub choices::build_chosen-returns-in_ok-whole-in-Root-clause-some : goal.choices::build_chosen-returns-in_ok-whole-in-Root-clause-some
choices::build_chosen-returns-in_ok-whole-in-Root-clause-some g t c s good p =
    let r = g.R.ReadLeaves.rules in
    let q = choice_is c.args.nodes.now s c.args.parts.now p in
    let inside : InProfile (choice q.root q.more) = rw q.is at good in
    let i = c.in-Root.place in
    let x = c.index-root-place.result in
    let a = alternative_at r.ruling.fielding (λ t. Spelt r.code None t) _ _ q.root i x q.plans (root_good q.root q.more inside) (omega (arith, c.if-place-root.false)) in
    let b = c.in_ok-part-in-Root.ensures.some a.shape a.good a.plan in
    let told : Spells r.ruling.fielding (IndexOf r _ c.args.parts.now.additions) (inl i) (r.to_units c.args.units.now) (r.to_units c.read_index.new.units) = rw c.in-Root.is at c.in-Ok.ensures.done in
    rw q.is (record { value = alternative i b.value; of_value = c.in_ok-whole-in-Root.ensures c.args.room.now c.choosing.new.room b.value c.in_ok-chosen-in-Root.ensures b.of_value; read = root_read r c.keep_laws.ensures q.root q.more inside _ c.args.parts.now.additions (each_count _ _ q.root q.plans) q.additions i (r.to_units c.args.units.now) (r.to_units c.read_index.new.units) (r.to_units c.build_at.new.units) told b.value (a.on b.value _ _ b.read) })

pub choices::build_chosen-returns-in_ok-whole-in-Added-clause-some : goal.choices::build_chosen-returns-in_ok-whole-in-Added-clause-some
choices::build_chosen-returns-in_ok-whole-in-Added-clause-some g t c s good p =
    let r = g.R.ReadLeaves.rules in
    let q = choice_is c.args.nodes.now s c.args.parts.now p in
    let inside : InProfile (choice q.root q.more) = rw q.is at good in
    let i = c.in-Added.place in
    let told : Spells r.ruling.fielding (IndexOf r _ c.args.parts.now.additions) (inr i) (r.to_units c.args.units.now) (r.to_units c.read_index.new.units) = rw c.in-Added.is at c.in-Ok.ensures.done in
    let a = added_read r c.keep_laws.ensures q.root q.more inside _ c.args.parts.now.additions (each_count _ _ q.root q.plans) q.additions i (r.to_units c.args.units.now) (r.to_units c.read_index.new.units) (r.to_units c.build_open.new.units) told _ _ q.others c.index-added-place.result (omega (arith, c.if-place-added.false)) (g.B.Build.built c.choosing-in-Added.new.room c.build_open.new.room c.in_ok-part-in-Added.part) (λ t good p. (let b = c.in_ok-part-in-Added.ensures.some t good p in (b.value, b.of_value, b.read))) in
    rw q.is (record { value = _; of_value = c.in_ok-whole-in-Added.ensures c.args.room.now c.choosing-in-Added.new.room a.0 c.in_ok-chosen-in-Added.ensures a.1; read = a.2 })

-- ---- complete encodings and open type fields

pub open::build_complete-returns : goal.open::build_complete-returns
open::build_complete-returns g t c s good p =
    let r = g.R.ReadLeaves.rules in
    let o = c.args.octets.now in
    let us = r.to_units c.over-units.result in
    let vs = r.to_units c.build_at.new.units in
    let over : us ≡ r.ruling.units o = ap r.to_units c.over-units.ensures ∙ c.keep_laws.ensures.over o c.are_octets.ensures in
    let v = c.in_ok-part.ensures.some s good p in
    let taken : c.units_left-given.result - c.units_left-left.result ≡ length us - length vs = omega (arith, c.units_left-given.ensures, c.units_left-left.ensures) in
    let many : c.in-Ok.count ≡ length o = omega (arith, c.in-Ok.ensures) in
    let ends = rw (taken, many) at (c.if-not-leave_open.ensures.some refl) in
    record {
      value = v.value;
      of_value = v.of_value;
      encoding = whole_here r c.keep_laws.ensures s good o us vs (r.to_units c.leave_open.new._units) over v.value v.read ends (omega (arith, c.if-left-given.false, c.units_left-given.ensures, c.units_left-left.ensures));
    }

pub open::build_copied-returns-clause-some : goal.open::build_copied-returns-clause-some
open::build_copied-returns-clause-some g t c s good p =
    let r = g.R.ReadLeaves.rules in
    let os = c.in-Ok.octets.now in
    let held : AreOctets os = (content_of c.in-Ok.ensures.done).2 in
    let v = c.in_ok-part.ensures s good p in
    record { value = v.value; of_value = v.of_value; read = field_read r s os (r.to_units c.args.units.now) (r.to_units c.read_open_octets.new.units) v.value c.in-Ok.ensures.done held v.encoding }
