use Rattle.std.proofs.Common.{◌≡◌, ◌+◌, ◌%◌, [], length, take}
use Rattle.asn_bits.proofs.Moving.{Begun}
use Rattle.asn_bits.proofs.shifts.fill_words.Given as goal

abbrev pub invariant-loop-eight : goal.invariant-loop-eight
invariant-loop-eight l =
    Begun [] (take l.index l.into) l.octets l.rest l.count l.pending l.high
    × (l.index + length l.rest ≡ length l.octets) × (length l.into ≡ length l.octets) × (l.index % 8 ≡ 0)

abbrev pub decreases-loop-eight : goal.decreases-loop-eight
decreases-loop-eight l = length l.rest
