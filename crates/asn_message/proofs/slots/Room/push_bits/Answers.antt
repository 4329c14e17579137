use Rattle.std.proofs.Common.{rules, ◌≡◌, ◌++◌, length, map, take}
use Rattle.std.proofs.lemmas.List.{take_all}
use Rattle.asn_message.proofs.Restored.{bits_found, octet_of_bit}
use Rattle.asn_message.proofs.slots.Room.push_bits.Goals as goal

pub returns-clause-at : goal.returns-clause-at
returns-clause-at c more =
    let os = c.args.self.now.octets.items in
    let bs = c.args.bits.now in
    let all : take c.loop-bit.bit-index bs ≡ bs = take_all c.loop-bit.bit-index bs c.loop-bit-test.false in
    let is : c.loop-bit.self.octets.items ≡ os ++ map octet_of_bit bs = rw all at c.loop-bit.invariant.2 in
    let begin : c.in_ok-begin.begin ≡ length os = search rules in
    let count : c.in_ok-length.length ≡ length bs = search rules in
    rw is (bits_found os more bs (record { begin = c.in_ok-begin.begin; length = c.in_ok-length.length }) begin count)
