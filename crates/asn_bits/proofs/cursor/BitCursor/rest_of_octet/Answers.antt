-- What whole octets leave over of the bits left.
use Rattle.std.proofs.Common.{◌≡◌, ◌-◌, ◌*◌, length, drop, arith, ap, sym, ◌∙◌}
use Rattle.asn_bits.specs.Numbers.{unpacked}
use Rattle.asn_bits.proofs.Reading.{length-left}
use Rattle.asn_bits.proofs.cursor.BitCursor.rest_of_octet.Goals as goal

pub returns-then-self-eq0-clause-rest : goal.returns-then-self-eq0-clause-rest
returns-then-self-eq0-clause-rest c =
    let s = c.self.inside in
    let v : drop s.offset (unpacked s.octets.now) ≡ c.args.self.now = c.self.view_is in
    let l : length c.args.self.now ≡ 8 * length s.octets.now - s.offset = ap length (sym v) ∙ length-left s.octets.now s.offset in
    omega arith

pub returns-else-self-eq0-clause-rest : goal.returns-else-self-eq0-clause-rest
returns-else-self-eq0-clause-rest c =
    let s = c.self.inside in
    let v : drop s.offset (unpacked s.octets.now) ≡ c.args.self.now = c.self.view_is in
    let l : length c.args.self.now ≡ 8 * length s.octets.now - s.offset = ap length (sym v) ∙ length-left s.octets.now s.offset in
    omega arith
