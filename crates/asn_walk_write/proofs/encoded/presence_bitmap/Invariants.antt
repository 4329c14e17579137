use Rattle.std.proofs.Common.{map}
use Rattle.asn_values.specs.View.{part_of_field}
use Rattle.asn_walk_write.proofs.WritePresence.{Bitmap}
use Rattle.asn_walk_write.proofs.encoded.presence_bitmap.Given as goal

abbrev pub invariant-loop-field : goal.invariant-loop-field
invariant-loop-field g l =
    Bitmap (map part_of_field l.fields) (map part_of_field l.field-iterator.a.rest.now)
    (g.V.Source.entries_left l.fn.entries) (g.V.Source.each_left l.field-iterator.b) l.count l.bitmap
