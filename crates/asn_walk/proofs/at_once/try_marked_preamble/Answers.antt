-- The number's highest bit is the extension bit, and the others are the presence bits.
use Rattle.std.proofs.Common.{◌≡◌, ◌<◌, ◌+◌, ◌-◌, ◌++◌, ◌/◌, ◌%◌, ◌^◌, nat_eq, nat_lt, bit_and, subst, ap, ◌∙◌, sym, arith}
use Rattle.std.proofs.lemmas.Nat.{and_mask}
use Rattle.asn_bits.specs.Sink.{bit_of}
use Rattle.asn_bits.proofs.Weights.{bits_only}
use Rattle.asn_walk.specs.AtOnce.{MarkedFirst}
use Rattle.asn_walk.proofs.AtOnce.{marked_first}
use Rattle.asn_walk.proofs.at_once.try_marked_preamble.Goals as goal

pub returns-clause-some : goal.returns-clause-some
returns-clause-some c =
    let a = c.args in
    let n = a.count in
    let w = c.in_ok-number.number in
    let r = c.try_number.new.bits in
    let first = c.in_ok-number.ensures.some in
    let is = bits_only (n + 1) w first.number first.spelt.digits in
    let all : c.greatest_of_width.result + 1 ≡ 2 ^ (n + bit_of (nat_lt 0 c.in_ok-listed.listed)) = rw c.from.ensures at c.greatest_of_width.ensures in
    let mask : bit_and w c.greatest_of_width-2.result ≡ w % 2 ^ n = ap (bit_and w) (omega (arith, c.greatest_of_width-2.ensures)) ∙ and_mask w n in
    subst (λ m. MarkedFirst n a.additions (nat_eq (w / 2 ^ n) 1, m) a.bits.now r) (sym mask)
    (marked_first n c.in_ok-listed.listed w c.greatest_of_width.result a.additions a.bits.now r c.in_ok-listed.was (first.split ∙ ap (λ t. t ++ r) is.1) is.0 (omega (arith, first.spelt.member.1)) all)
