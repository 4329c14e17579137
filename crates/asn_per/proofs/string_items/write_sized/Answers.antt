use Rattle.std.proofs.Common.{◌-◌, length, Some, None, sym, arith}
use Rattle.asn_values.specs.View.{size_range_of}
use Rattle.asn_walk.specs.Writing.{Advances}
use Rattle.asn_per.specs.Following.{following_chunks}
use Rattle.asn_per.specs.StringItems.{item_chunks, sized_bits}
use Rattle.asn_per.specs.Rules.{per_ruling}
use Rattle.asn_per.specs.Walk.{per_coding}
use Rattle.asn_per.proofs.Write.SizesWritten.{written_next, written_end}
use Rattle.asn_per.proofs.string_items.write_sized.Goals as goal

pub loop-many-init : goal.loop-many-init
unfolding per_coding per_ruling
loop-many-init g c =
    let starts = c.in_ok-following.ensures (item_chunks c.args.items) (sym c.count_of-count.ensures) in
    record { few = omega arith; front = starts.done; pushed = starts.pushed; known = starts.rest }

pub loop-many-preserved : goal.loop-many-preserved
loop-many-preserved g c =
    let xs = item_chunks c.args.items in
    let whole = sized_bits (size_range_of c.args.size.now) xs in
    let rest = following_chunks c.loop-many.following in
    let then = following_chunks c.next.new.self in
    let step : Advances g.S.Sink.pushes per_coding rest (length xs - c.loop-many.done) c.loop-many.sink then c.next.new.sink (Some c.in-Some.many) = rw (c.in-Some.is, c.count_of-count.ensures) at c.in_ok-many.ensures in
    written_next g.met.S.Sink.pushes_joined xs whole rest then c.args.sink.now c.loop-many.sink c.next.new.sink c.write_items.new.sink c.loop-many.done c.in-Some.many c.loop-many.invariant step c.in_ok-write_items.ensures

pub returns : goal.returns
returns g c =
    let xs = item_chunks c.args.items in
    let whole = sized_bits (size_range_of c.args.size.now) xs in
    let rest = following_chunks c.loop-many.following in
    let then = following_chunks c.next.new.self in
    let step : Advances g.S.Sink.pushes per_coding rest (length xs - c.loop-many.done) c.loop-many.sink then c.next.new.sink None = rw (c.in_default.is, c.count_of-count.ensures) at c.in_ok-many.ensures in
    written_end g.met.S.Sink.pushes_joined xs whole rest then c.args.sink.now c.loop-many.sink c.next.new.sink c.loop-many.done c.loop-many.invariant step
