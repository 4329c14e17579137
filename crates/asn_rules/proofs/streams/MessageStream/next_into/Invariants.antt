use Rattle.std.proofs.Common.{◌≡◌, ◌-◌, ◌^◌, length}
use Rattle.asn_values.specs.View.{shape_of}
use Rattle.asn_rules.specs.Streams.{stream_of, Brings}
use Rattle.asn_rules.proofs.streams.MessageStream.next_into.Given as goal

-- what is held is what was held before, and what the reader gave since
abbrev pub invariant-loop-taken : goal.invariant-loop-taken
invariant-loop-taken g l = record {
  brings : Brings (stream_of l.fn.self.held.items (g.S.Read.remaining l.fn.self.reader)) (stream_of l.self.held.items (g.S.Read.remaining l.self.reader)) l.self.held.items;
  of_type : shape_of l.self.ty.now ≡ shape_of l.fn.self.ty.now;
}

abbrev pub decreases-loop-taken : goal.decreases-loop-taken
decreases-loop-taken g l = 2 ^ 64 - length l.self.held.items
