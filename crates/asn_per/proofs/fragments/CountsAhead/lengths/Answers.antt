-- The counts of what is left are those of the intervals.
use Rattle.std.proofs.Common.{refl}
use Rattle.asn_per.proofs.InPieces.Counts.{both_left, second_left, neither_left}
use Rattle.asn_per.proofs.fragments.CountsAhead.lengths.Goals as goal

pub unreachable-requires : goal.unreachable-requires
unreachable-requires c = neither_left c.args.self.now c.requires.some.0 c.in-None.ensures.left c.in-None-second.ensures.left c.requires.some.1

pub returns-in-Some : goal.returns-in-Some
returns-in-Some c =
    rw c.new.ensures (record { no_blocks = refl; no_bits = refl; same = both_left c.args.self.now c.in-Some.first c.left_within-second.result c.in-Some.ensures.left c.left_within-second.ensures.left })

pub returns-in-Some-second : goal.returns-in-Some-second
returns-in-Some-second c =
    rw c.new-in-Some-second.ensures (record { no_blocks = refl; no_bits = refl; same = second_left c.args.self.now c.in-Some-second.second c.in-None.ensures.left c.in-Some-second.ensures.left })
