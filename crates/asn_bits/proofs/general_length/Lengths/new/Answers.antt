-- The low end of the first interval is a count.
use Rattle.std.proofs.Common.{Option, Some, None, inl, ◌≤◌, arith}
use Rattle.asn_bits.specs.Ranges.{Spanned}
use Rattle.asn_bits.specs.LengthStates.{spans}
use Rattle.asn_bits.specs.declared.general_length.Counts.{Counts}
use Rattle.asn_bits.proofs.GivenLengths.{starts_reading}
use Rattle.asn_bits.proofs.general_length.Lengths.new.Goals as goal

low_there : (first : Counts) (second : Option Counts) → first.low ≤ first.high → Spanned (spans first second) first.low
low_there first None h = inl (omega arith, h)
low_there first (Some second) h = inl (omega arith, h)

pub invariant_of-result : goal.invariant_of-result
invariant_of-result c = starts_reading (spans c.args.first c.args.second) c.args.first.low (low_there c.args.first c.args.second c.requires.some)
