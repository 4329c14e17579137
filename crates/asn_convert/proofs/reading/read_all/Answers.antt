use Rattle.std.proofs.Common.{rules, arith, ◌≡◌, ◌≤◌, ◌<◌, ◌^◌, ◌+◌, ◌++◌, refl, length, take, ap, ◌∙◌, length-append, length-take-le}
use Rattle.asn_convert.proofs.Told.{consumes_twice, read_whole, less_room}
use Rattle.asn_convert.proofs.reading.read_all.Goals as goal

pub loop-count-preserved : goal.loop-count-preserved
loop-count-preserved g c =
    let more : c.extend_from_slice.new.self.items ≡ c.loop-count.octets.items ++ take c.in-Ok.count c.read.new.buf = c.in_ok-extend_from_slice.ensures.items in
    record {
      read = rw more (consumes_twice _ _ _ _ _ c.loop-count.invariant.read c.in-Ok.ensures.bytes.0);
      same = c.in-Ok.ensures.faults ∙ c.loop-count.invariant.same;
    }

pub loop-count-smaller : goal.loop-count-smaller
loop-count-smaller g c =
    let more : c.extend_from_slice.new.self.items ≡ c.loop-count.octets.items ++ take c.in-Ok.count c.read.new.buf = c.in_ok-extend_from_slice.ensures.items in
    let fits : c.in-Ok.count ≤ length c.read.new.buf = c.in-Ok.ensures.bound.0 in
    let longer : length c.extend_from_slice.new.self.items ≡ length c.loop-count.octets.items + c.in-Ok.count = ap length more ∙ (length-append _ _ ∙ ap (λ n. length c.loop-count.octets.items + n) (length-take-le c.in-Ok.count c.read.new.buf fits)) in
    let grown = c.extend_from_slice.new.self in
    let small : length grown.items < 2 ^ 63 = (let held = grown.ok in let room = grown.small in omega (arith, held.0, held.1, room)) in
    less_room (length c.loop-count.octets.items) (length grown.items) c.in-Ok.count longer c.if-count-eq0.false small

pub returns-then-count-eq0-clause-given : goal.returns-then-count-eq0-clause-given
returns-then-count-eq0-clause-given g c =
    read_whole _ _ _ _ (take c.in-Ok.count c.read.new.buf) c.loop-count.invariant.read c.in-Ok.ensures.bytes.0 (rw c.if-count-eq0.true refl) (c.in-Ok.ensures.bytes.1 c.if-count-eq0.true (search rules))
