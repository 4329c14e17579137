-- At an octet the octets are those below; within one they are shifted.
use Rattle.std.proofs.Common.{◌≡◌, ◌+◌, ◌-◌, ◌<◌, ℕ, [], length, take, drop, get_or, subst, arith}
use Rattle.asn_bits.specs.Moves.{Shifted}
use Rattle.asn_bits.proofs.Moving.{taken_whole, taken_shifted}
use Rattle.asn_bits.proofs.shifts.copy_front.Goals as goal

pub returns-then-offset-eq0-clause-taken : goal.returns-then-offset-eq0-clause-taken
returns-then-offset-eq0-clause-taken c =
    let a = c.args in
    let range : (i : ℕ) → get_or a.octets.now i 0 < 256 = λ i. omega (arith, c.type_inv.octets i) in
    taken_whole a.octets.now [] c.copy_from_slice.new.self a.offset (length a.into.now) c.if-offset-eq0.true (omega arith) range c.copy_from_slice.ensures.after

pub returns-else-offset-eq0-clause-taken : goal.returns-else-offset-eq0-clause-taken
returns-else-offset-eq0-clause-taken c =
    let a = c.args in
    let os = a.octets.now in
    let n = length a.into.now in
    let begun = c.if-offset-eq0.false in
    let front : n + 1 - 1 ≡ n = omega arith in
    taken_shifted os [] c.fill_shifted.new.into a.offset n c.fill_shifted.result c.requires.begun (omega arith)
    (subst (λ i. Shifted [] c.fill_shifted.new.into (take i (drop 1 os)) (8 - a.offset) (get_or os 0 0) c.fill_shifted.result) front c.fill_shifted.ensures)
