use Rattle.std.proofs.Common.{take}
use Rattle.asn_values.specs.View.{entries_seen}
use Rattle.asn_message.proofs.Restored.{entry_taken, no_entry_taken, absent_pushed}
use Rattle.asn_message.proofs.restoring.take_entries.Goals as goal
use Rattle.asn_message.proofs.restoring.take_entries.Goals.{in-Some+in_ok-push, in_default}

pub loop-i-preserved : goal.loop-i-preserved
loop-i-preserved c =
    let es = entries_seen c.args.left.now.items in
    let old = c.loop-i.left.items in
    let left = c.pop_front.new.self.items in
    elim c.match-pop_front.branch [
      | in-Some+in_ok-push w ↦ rw w.entries-is (entry_taken es c.loop-i.i c.loop-i.entries.items w.push.new.self.items old left w.in-Some.entry c.loop-i.invariant.0 c.loop-i.invariant.1 (rw w.in-Some.is at c.pop_front.ensures.items) w.in_ok-push.ensures.items)
      | in_default w ↦ rw w.entries-is (no_entry_taken es c.loop-i.i c.loop-i.entries.items old left c.loop-i.invariant.0 c.loop-i.invariant.1 (rw w.in_default.is at c.pop_front.ensures.items) c.pop_front.ensures.rest)
    ]

pub loop-i-2-preserved : goal.loop-i-2-preserved
loop-i-2-preserved c =
    (absent_pushed (take c.args.taken (entries_seen c.args.left.now.items)) c.loop-i-2.i c.loop-i-2.entries.items c.push-in-loop-i-2.new.self.items c.loop-i-2.invariant.0 c.in_ok-push-2.ensures.items, c.loop-i-2.invariant.1)
