use Rattle.std.proofs.Common.{length, map, take, ◌-◌, ◌≤◌}
use Rattle.asn_values.specs.View.{alphabet_of}
use Rattle.asn_bits.specs.Lengths.{joined}
use Rattle.asn_per.specs.Per.{character_bits}
use Rattle.asn_per.proofs.string_items.push_characters.Given as goal

-- the first characters were added
abbrev pub invariant-loop-done : goal.invariant-loop-done
invariant-loop-done g l = record {
  few : l.done ≤ length l.text;
  pushed : g.S.Sink.pushes l.initial.sink l.sink (joined (map (λ c. character_bits (alphabet_of l.kind) c) (take l.done l.text)));
}

abbrev pub decreases-loop-done : goal.decreases-loop-done
decreases-loop-done g l = length l.text - l.done
