use Rattle.std.proofs.Common.{◌++◌, ◌∷◌, [], ◌∙◌, Option, Some, None, append-nil, ap, sym, arith}
use Rattle.std.proofs.lemmas.Result.{on_ok_weaker}
use Rattle.asn_values.specs.Datum.{Datum}
use Rattle.asn_values.specs.View.{datum_of}
use Rattle.asn_contents.specs.Contents.{places_in, of_entry}
use Rattle.asn_contents.specs.View.{contents_of, content_list}
use Rattle.asn_contents.proofs.Entries.{of_entry_there, of_no_entry}
use Rattle.asn_contents.proofs.Places.{in_sequence, in_list, in_both, in_selected, at_alternative, no_alternative, part_next, parts_done, element_next, elements_done}
use Rattle.asn_contents.proofs.finding.+finding.Goals as goal

pub push_contents-returns-in-Seq : goal.push_contents-returns-in-Seq
push_contents-returns-in-Seq t c =
    on_ok_weaker c.push_of_parts.result
    (in_sequence c.args.contents.now c.args.value.now c.in-Components.parts c.in-Seq.entries c.in-Components.is c.in-Seq.is
    c.deref-in-Seq.result.now c.deref-in-Seq-2.result.now c.deref-in-Seq.ensures.value c.deref-in-Seq-2.ensures.value c.args.path.now _ _)
    c.push_of_parts.ensures

pub push_contents-returns-in-List : goal.push_contents-returns-in-List
push_contents-returns-in-List t c =
    on_ok_weaker c.push_of_elements.result
    (in_list c.args.contents.now c.args.value.now c.in-Elements.inner c.in-List.elements c.in-Elements.is c.in-List.is
    c.deref-in-List.result.now c.deref-in-List-2.result.now c.deref-in-List.ensures c.deref-in-List-2.ensures.value c.args.path.now _ _)
    c.push_of_elements.ensures

pub push_contents-returns-in_ok-push_contents-in-Both : goal.push_contents-returns-in_ok-push_contents-in-Both
push_contents-returns-in_ok-push_contents-in-Both t c =
    on_ok_weaker c.push_contents-in-Both.result
    (in_both c.args.contents.now c.in-Both.first c.in-Both.second c.in-Both.is c.deref-in-Both.result.now c.deref-in-Both-2.result.now
    c.deref-in-Both.ensures c.deref-in-Both-2.ensures (datum_of c.args.value.now) c.args.path.now _ _ _ c.in_ok-push_contents-in-Both.ensures)
    c.push_contents-in-Both.ensures

pub push_contents-returns-in-Seq-value : goal.push_contents-returns-in-Seq-value
push_contents-returns-in-Seq-value t c =
    on_ok_weaker c.push_selected.result
    (in_selected c.args.contents.now c.args.value.now c.in-Selected.selection c.in-Seq-value.entries c.in-Selected.is c.in-Seq-value.is
    c.deref-in-Seq-value.result.now c.deref-in-Seq-value.ensures.value c.args.path.now _ _)
    c.push_selected.ensures

pub push_of_alternative-returns-then-parts-index : goal.push_of_alternative-returns-then-parts-index
push_of_alternative-returns-then-parts-index t c =
    let before = content_list c.args.found.now.items in
    sym (append-nil before) ∙ ap (λ l. before ++ l) (no_alternative c.args.parts.now c.args.index (c.args.path.now ++ c.args.index ∷ []) (datum_of c.args.chosen.now) c.if-parts-index.true)

pub push_of_alternative-returns : goal.push_of_alternative-returns
push_of_alternative-returns t c =
    let before = content_list c.args.found.now.items in
    on_ok_weaker c.push_of_part.result
    (λ h. h ∙ ap (λ l. before ++ l) (at_alternative c.args.parts.now c.args.index c.index-parts-index.result (c.args.path.now ++ c.args.index ∷ []) (datum_of c.args.chosen.now) c.if-parts-index.false c.index-parts-index.is))
    c.push_of_part.ensures

pub push_of_entry-returns-then-entries-index : goal.push_of_entry-returns-then-entries-index
push_of_entry-returns-then-entries-index t c =
    let before = content_list c.args.found.now.items in
    let at = λ (e : Option Datum). before ++ of_entry (λ q d. places_in (contents_of c.args.part.now) q d) (c.args.path.now ++ c.args.index ∷ []) e in
    sym (append-nil before) ∙ of_no_entry at c.args.entries.now c.args.index c.if-entries-index.true

pub push_of_entry-returns-in-None : goal.push_of_entry-returns-in-None
push_of_entry-returns-in-None t c =
    let before = content_list c.args.found.now.items in
    let at = λ (e : Option Datum). before ++ of_entry (λ q d. places_in (contents_of c.args.part.now) q d) (c.args.path.now ++ c.args.index ∷ []) e in
    sym (append-nil before) ∙ of_entry_there at c.args.entries.now c.args.index c.index-entries-index.result None c.if-entries-index.false c.index-entries-index.is c.in-None.is

pub push_of_entry-returns-in-Some : goal.push_of_entry-returns-in-Some
push_of_entry-returns-in-Some t c =
    let before = content_list c.args.found.now.items in
    let at = λ (e : Option Datum). before ++ of_entry (λ q d. places_in (contents_of c.args.part.now) q d) (c.args.path.now ++ c.args.index ∷ []) e in
    on_ok_weaker c.push_of_part.result
    (λ h. h ∙ of_entry_there at c.args.entries.now c.args.index c.index-entries-index.result (Some c.in-Some.value) c.if-entries-index.false c.index-entries-index.is c.in-Some.is)
    c.push_of_part.ensures

pub push_of_parts-loop-index-preserved : goal.push_of_parts-loop-index-preserved
push_of_parts-loop-index-preserved t c =
    part_next c.args.parts.now c.args.entries.now c.args.path.now c.loop-index.index c.index-parts-index.result _ _ _
    (omega arith) c.index-parts-index.is c.in_ok-push_of_entry.ensures c.loop-index.invariant

pub push_of_parts-returns : goal.push_of_parts-returns
push_of_parts-returns t c =
    parts_done c.args.parts.now c.args.entries.now c.args.path.now c.loop-index.index _ _ c.loop-index-test.false c.loop-index.invariant

pub push_of_elements-loop-index-preserved : goal.push_of_elements-loop-index-preserved
push_of_elements-loop-index-preserved t c =
    element_next c.args.contents.now c.args.elements.now c.args.path.now c.loop-index.index c.index-elements-index.result _ _ _
    (omega arith) c.index-elements-index.is c.in_ok-push_of_part.ensures c.loop-index.invariant

pub push_of_elements-returns : goal.push_of_elements-returns
push_of_elements-returns t c =
    elements_done c.args.contents.now c.args.elements.now c.args.path.now c.loop-index.index _ _ c.loop-index-test.false c.loop-index.invariant
