use Rattle.std.proofs.Common.{◌≡◌, ◌++◌, length}
use Rattle.std.specs.Vec.Iter.{into_iter_items, into_iter_len}
use Rattle.asn_newer.specs.Reading.{skipped_seen, skipped_at_seen}
use Rattle.asn_newer.specs.Skipped.{fields_of_all}
use Rattle.asn_newer.proofs.path.fields_of.Given as goal

abbrev pub invariant-loop-one : goal.invariant-loop-one
invariant-loop-one l = (l.yielded ++ into_iter_items l.one-iterator ≡ into_iter_items l.initial.one-iterator)
    × (skipped_seen l.fields.items ≡ fields_of_all (skipped_at_seen l.yielded))
    × (into_iter_len l.one-iterator ≡ length (into_iter_items l.one-iterator))
