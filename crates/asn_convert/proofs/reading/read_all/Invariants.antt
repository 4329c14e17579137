use Rattle.std.proofs.Common.{◌≡◌, ◌-◌, ◌^◌, length}
use Rattle.std.specs.Io.KnownBytes.{Consumes}
use Rattle.asn_rules.specs.Faults.{inner_of, faults_of}
use Rattle.asn_convert.proofs.reading.read_all.Given as goal

-- what was read so far is gone from the reader, and there was no fault
abbrev pub invariant-loop-count : goal.invariant-loop-count
invariant-loop-count g l = record {
  read : Consumes (g.R.Read.remaining (inner_of l.fn.input)) (g.R.Read.remaining (inner_of l.input)) l.octets.items;
  same : faults_of l.input ≡ faults_of l.fn.input;
}

abbrev pub decreases-loop-count : goal.decreases-loop-count
decreases-loop-count g l = 2 ^ 64 - length l.octets.items
