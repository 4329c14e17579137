use Rattle.std.proofs.Common.{◌<◌, ◌*◌, ◌^◌}
use Rattle.asn_window.specs.Fragmented.{HasRoom}
use Rattle.asn_window.proofs.fragments.room_at.Given as goal

abbrev pub invariant-loop-at : goal.invariant-loop-at
invariant-loop-at l = record { room : HasRoom l.fragments l.at l.room; few : 8 * l.room < 2 ^ 64 }
