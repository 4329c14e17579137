use Rattle.asn_message.specs.Sources.{slot_entries}
use Rattle.asn_message.proofs.Sourced.{drop_one_more}
use Rattle.asn_message.proofs.source.LeafedSource.split_entries.Goals as goal

pub loop-passed-preserved : goal.loop-passed-preserved
loop-passed-preserved c =
    drop_one_more c.loop-passed.passed (slot_entries c.args.entries) (slot_entries c.loop-passed.others) (slot_entries c.next_entry.new.entries) c.loop-passed.invariant c.next_entry.ensures.others
