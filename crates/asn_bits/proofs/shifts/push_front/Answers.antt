-- At an octet the octets are those below; within one they are shifted.
use Rattle.std.proofs.Common.{◌≡◌, ◌+◌, ◌-◌, ◌<◌, ℕ, take, drop, get_or, subst, arith}
use Rattle.asn_bits.specs.Moves.{Shifted}
use Rattle.asn_bits.proofs.Moving.{taken_whole, taken_shifted}
use Rattle.asn_bits.proofs.shifts.push_front.Goals as goal

pub returns-in_ok-extend_from_slice-clause-ok : goal.returns-in_ok-extend_from_slice-clause-ok
returns-in_ok-extend_from_slice-clause-ok c =
    let a = c.args in
    let range : (i : ℕ) → get_or a.octets.now i 0 < 256 = λ i. omega (arith, c.type_inv.octets i) in
    taken_whole a.octets.now a.bytes.now.items c.extend_from_slice.new.self.items a.offset a.count c.if-offset-eq0.true (omega arith) range c.in_ok-extend_from_slice.ensures.items

pub returns-in_ok-reserve-clause-ok : goal.returns-in_ok-reserve-clause-ok
returns-in_ok-reserve-clause-ok c =
    let a = c.args in
    let os = a.octets.now in
    let new = c.push_shifted.new.bytes.items in
    let left = c.push_shifted.result in
    let begun = c.if-offset-eq0.false in
    let n : a.count + 1 - 1 ≡ a.count = omega arith in
    let h = subst (λ i. Shifted c.reserve.new.self.items new (take i (drop 1 os)) (8 - a.offset) (get_or os 0 0) left) n c.push_shifted.ensures.shifted in
    taken_shifted os a.bytes.now.items new a.offset a.count left c.requires.begun (omega arith)
    (subst (λ t. Shifted t new (take a.count (drop 1 os)) (8 - a.offset) (get_or os 0 0) left) c.in_ok-reserve.ensures.items h)
