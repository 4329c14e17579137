use Rattle.std.proofs.Common.{◌≤◌, ◌-◌}
use Rattle.asn_values.specs.View.{alphabet_of}
use Rattle.asn_rules.specs.OctetReading.{AtOctet}
use Rattle.asn_rules.specs.OctetStrings.{Character}
use Rattle.asn_oer.specs.SingleItems.{TakesOctets}
use Rattle.asn_oer.proofs.item_runs.take_each.Given as goal

abbrev pub invariant-loop-count : goal.invariant-loop-count
invariant-loop-count l = TakesOctets (Character (alphabet_of l.kind)) l.count l.fn.into.items l.into.items l.initial.units l.units × AtOctet l.units × (l.count ≤ l.most)

abbrev pub decreases-loop-count : goal.decreases-loop-count
decreases-loop-count l = l.most - l.count
