-- A number has one bit more.
use Rattle.std.proofs.Common.{[], ◌∷◌, ◌++◌, ap, ◌∙◌, arith}
use Rattle.asn_bits.specs.LengthStates.{state_bits}
use Rattle.asn_bits.proofs.FirstLengths.{place_more, bit_byte}
use Rattle.asn_bits.proofs.general_length.after_bit.Goals as goal

pub returns-else-left-eq0-clause-state : goal.returns-else-left-eq0-clause-state
returns-else-left-eq0-clause-state c =
    let n = c.in-Number in
    let b = bit_byte c.args.bit c.from.ensures in
    (place_more c.args.state n.form n.prefix n.left c.from.result n.is c.requires (omega arith) b.0).0

pub returns-else-left-eq0-clause-bits : goal.returns-else-left-eq0-clause-bits
returns-else-left-eq0-clause-bits c =
    let n = c.in-Number in
    let b = bit_byte c.args.bit c.from.ensures in
    (place_more c.args.state n.form n.prefix n.left c.from.result n.is c.requires (omega arith) b.0).1 ∙ ap (λ x. state_bits c.args.state ++ x ∷ []) b.1
