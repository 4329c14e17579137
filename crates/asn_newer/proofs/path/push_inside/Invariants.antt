use Rattle.std.proofs.Common.{◌≡◌, ◌++◌, length, map}
use Rattle.std.specs.Vec.Iter.{into_iter_items, into_iter_len}
use Rattle.asn_newer.specs.Reading.{skipped_at_seen}
use Rattle.asn_newer.specs.Skipped.{inside}
use Rattle.asn_newer.proofs.path.push_inside.Given as goal

abbrev pub invariant-loop-field : goal.invariant-loop-field
invariant-loop-field l = (l.yielded ++ into_iter_items l.field-iterator ≡ into_iter_items l.initial.field-iterator)
    × (skipped_at_seen l.skipped.items ≡ skipped_at_seen l.fn.skipped.items ++ map (inside l.step) (skipped_at_seen l.yielded))
    × (into_iter_len l.field-iterator ≡ length (into_iter_items l.field-iterator))
