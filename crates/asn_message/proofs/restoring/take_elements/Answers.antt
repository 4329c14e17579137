use Rattle.std.proofs.Common.{map, refl}
use Rattle.asn_values.specs.View.{datum_of, entries_seen}
use Rattle.asn_message.proofs.Restored.{element_taken, no_element_taken}
use Rattle.asn_message.proofs.restoring.take_elements.Goals as goal
use Rattle.asn_message.proofs.restoring.take_elements.Goals.{in-Some+in_ok-push_present, in_default}

pub loop-i-preserved : goal.loop-i-preserved
loop-i-preserved c =
    let es = entries_seen c.args.left.now.items in
    let old = c.loop-i.left.items in
    let left = c.pop_front.new.self.items in
    elim c.match-pop_front.branch [
      | in-Some+in_ok-push_present w ↦ rw w.elements-is (element_taken es c.loop-i.i (map datum_of c.loop-i.elements.items) (map datum_of w.push_present.new.elements.items) old left w.in-Some.entry c.loop-i.invariant.0 c.loop-i.invariant.1 (rw w.in-Some.is at c.pop_front.ensures.items) (w.in_ok-push_present.ensures refl))
      | in_default w ↦ rw w.elements-is (no_element_taken es c.loop-i.i (map datum_of c.loop-i.elements.items) old left c.loop-i.invariant.0 c.loop-i.invariant.1 (rw w.in_default.is at c.pop_front.ensures.items) c.pop_front.ensures.rest)
    ]
