use Rattle.std.proofs.Common.{◌≡◌, [], length, take}
use Rattle.asn_bits.specs.Moves.{Shifted}
use Rattle.asn_bits.proofs.shifts.fill_singles.Given as goal

abbrev pub invariant-loop-i : goal.invariant-loop-i
invariant-loop-i l =
    Shifted [] (take l.i l.into) (take l.i l.octets) l.count l.pending l.high × (length l.into ≡ length l.octets)
