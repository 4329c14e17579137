use Rattle.asn_message.specs.Sources.{slot_elements}
use Rattle.asn_message.proofs.Sourced.{drop_one_more}
use Rattle.asn_message.proofs.source.LeafedSource.split_elements.Goals as goal

pub loop-passed-preserved : goal.loop-passed-preserved
loop-passed-preserved c =
    drop_one_more c.loop-passed.passed (slot_elements c.args.elements) (slot_elements c.loop-passed.others) (slot_elements c.next_element.new.elements) c.loop-passed.invariant c.next_element.ensures.others
