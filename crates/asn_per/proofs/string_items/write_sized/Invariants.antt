use Rattle.std.proofs.Common.{◌-◌}
use Rattle.asn_values.specs.View.{size_range_of}
use Rattle.asn_per.specs.Following.{following_chunks}
use Rattle.asn_per.specs.StringItems.{item_chunks, sized_bits}
use Rattle.asn_per.proofs.Write.SizesWritten.{Written}
use Rattle.asn_per.proofs.string_items.write_sized.Given as goal

abbrev pub invariant-loop-many : goal.invariant-loop-many
invariant-loop-many g l =
    Written g.S.Sink.pushes (item_chunks l.items) (sized_bits (size_range_of l.size) (item_chunks l.items)) (following_chunks l.following) l.fn.sink l.sink l.done

abbrev pub decreases-loop-many : goal.decreases-loop-many
decreases-loop-many g l = l.count - l.done
