use Rattle.asn_per.proofs.Write.ListFragments.{items_end, last_end, fragment_follows}
use Rattle.asn_per.proofs.sizes.Following.next.Goals as goal

pub returns-then-left-eq0 : goal.returns-then-left-eq0
returns-then-left-eq0 g c = rw c.in-Items.is (items_end g.S.Sink.pushes c.args.sink.now c.args.left (g.met.S.Sink.pushes_none c.args.sink.now) c.if-left-eq0.true)

pub returns-then-count-ge-BLOCK : goal.returns-then-count-ge-BLOCK
returns-then-count-ge-BLOCK g c =
    rw c.in-Length.is (fragment_follows g.S.Sink.pushes c.args.sink.now c.push_length.new.self c.args.left c.in_ok-count-in-Length.count c.in_ok-count-in-Length.ensures.items c.in_ok-count-in-Length.ensures.bits c.if-count-ge-BLOCK.true)

pub returns-then-count-eq0 : goal.returns-then-count-eq0
returns-then-count-eq0 g c =
    rw c.in-Length.is (last_end g.S.Sink.pushes c.args.sink.now c.push_length.new.self c.args.left c.in_ok-count-in-Length.count c.in_ok-count-in-Length.ensures.items c.in_ok-count-in-Length.ensures.bits c.if-count-eq0.true)
