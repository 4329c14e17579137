-- At an octet the octets are those below.
use Rattle.std.proofs.Common.{◌<◌, ℕ, [], get_or, arith}
use Rattle.std.proofs.lemmas.Result.{IfOk-weaker}
use Rattle.asn_bits.proofs.Moving.{taken_whole}
use Rattle.asn_bits.proofs.shifts.front_row.Goals as goal

pub returns-then-offset-eq0 : goal.returns-then-offset-eq0
returns-then-offset-eq0 c =
    let a = c.args in
    let range : (i : ℕ) → get_or a.octets.now i 0 < 256 = λ i. omega (arith, c.type_inv.octets i) in
    IfOk-weaker c.from_slice.result _ _ (λ row e. taken_whole a.octets.now [] row.items a.offset a.count c.if-offset-eq0.true (omega arith) range e) c.from_slice.ensures.items
