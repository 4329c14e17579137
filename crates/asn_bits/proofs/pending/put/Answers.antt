-- Either all bits wait, or a word of them goes out.
use Rattle.std.proofs.Common.{◌+◌, ◌-◌, arith}
use Rattle.asn_bits.proofs.Packing.{waiting_view, word_alone, word_view}
use Rattle.asn_bits.proofs.pending.put.Goals as goal

pub returns-then-total-lt64-clause-bits : goal.returns-then-total-lt64-clause-bits
returns-then-total-lt64-clause-bits c =
    let a = c.args in
    waiting_view a.octets.now.items a.count a.pending a.k a.n c.shift_in.result c.requires.fits (omega arith) c.shift_in.ensures

pub returns-then-count-eq0-clause-bits : goal.returns-then-count-eq0-clause-bits
returns-then-count-eq0-clause-bits c =
    let a = c.args in
    word_alone a.octets.now.items c.push_word.new.bytes.items a.count a.pending a.k a.n (a.count + a.k - 64) c.if-count-eq0.true (omega arith) c.requires.few c.push_word.ensures.items

pub returns-else-count-eq0-clause-bits : goal.returns-else-count-eq0-clause-bits
returns-else-count-eq0-clause-bits c =
    let a = c.args in
    word_view a.octets.now.items c.push_word-else-count-eq0.new.bytes.items a.count a.pending a.k a.n (a.count + a.k - 64) c.full_word.result c.requires.fits (omega arith) (omega arith) c.full_word.ensures c.push_word-else-count-eq0.ensures.items
