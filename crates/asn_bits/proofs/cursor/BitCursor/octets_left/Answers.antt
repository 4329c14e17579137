-- Eight bits an octet, less those that are read.
use Rattle.std.proofs.Common.{◌≡◌, ◌-◌, ◌*◌, length, drop, arith, ap, sym, subst, ◌∙◌}
use Rattle.asn_bits.specs.Numbers.{unpacked}
use Rattle.asn_bits.specs.Sets.{AreBits}
use Rattle.asn_bits.proofs.Reading.{left_bits, length-left}
use Rattle.asn_bits.proofs.cursor.BitCursor.octets_left.Goals as goal

pub returns-then-self-eq0-clause-count : goal.returns-then-self-eq0-clause-count
returns-then-self-eq0-clause-count c =
    let s = c.self.inside in
    let v : drop s.offset (unpacked s.octets.now) ≡ c.args.self.now = c.self.view_is in
    let l : length c.args.self.now ≡ 8 * length s.octets.now - s.offset = ap length (sym v) ∙ length-left s.octets.now s.offset in
    omega arith

pub returns-else-self-eq0-clause-count : goal.returns-else-self-eq0-clause-count
returns-else-self-eq0-clause-count c =
    let s = c.self.inside in
    let v : drop s.offset (unpacked s.octets.now) ≡ c.args.self.now = c.self.view_is in
    let l : length c.args.self.now ≡ 8 * length s.octets.now - s.offset = ap length (sym v) ∙ length-left s.octets.now s.offset in
    omega arith

pub returns-then-self-eq0-clause-bits : goal.returns-then-self-eq0-clause-bits
returns-then-self-eq0-clause-bits c = subst AreBits c.self.view_is (left_bits c.self.inside.octets.now c.self.inside.offset)

pub returns-else-self-eq0-clause-bits : goal.returns-else-self-eq0-clause-bits
returns-else-self-eq0-clause-bits c = subst AreBits c.self.view_is (left_bits c.self.inside.octets.now c.self.inside.offset)
