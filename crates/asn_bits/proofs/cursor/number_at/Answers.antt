-- The field of the first octets' number: nine of them where there are that many.
use Rattle.std.proofs.Common.{◌≡◌, ◌<◌, ◌+◌, ◌-◌, ◌*◌, ◌/◌, ℕ, length, get_or, take, ap, sym, ◌∙◌, arith}
use Rattle.std.proofs.lemmas.List.{length-take-le}
use Rattle.asn_bits.specs.Numbers.{octets}
use Rattle.asn_bits.proofs.Reading.{octets_eight, octets_nine, field_read}
use Rattle.asn_bits.proofs.cursor.number_at.Goals as goal

pub returns-in-Some-first-clause-here : goal.returns-in-Some-first-clause-here
returns-in-Some-first-clause-here c =
    let os = c.args.octets.now in
    let a = c.from_be_bytes.result in
    let b = c.in-Some-first.ninth.now in
    let front = c.in-Some.ensures.cases in
    let first = c.in-Some-first.ensures.item.3 in
    let range : (i : ℕ) → get_or os i 0 < 256 = λ i. omega (arith, c.type_inv.octets i) in
    let many : 8 < length os = omega (arith, front.2, first.0) in
    let nine = octets_nine os c.in-Some.rest.now a b (octets_eight os c.in-Some.eight.now a front.0 (omega arith) range c.from_be_bytes.ensures) front.1 (omega (arith, range 8)) many (first.1 0) in
    field_read os c.args.offset c.args.k (72 - (c.args.offset + c.args.k)) 9 (a * 256 + b) c.wide_field.result nine (omega arith) c.wide_field.ensures

pub returns-clause-here : goal.returns-clause-here
returns-clause-here c =
    let os = c.args.octets.now in
    let f = c.args.offset in
    let k = c.args.k in
    let m = (f + k + 7) / 8 in
    let count : length (take m os) ≡ m = length-take-le m os (omega arith) in
    let front : octets m c.from_be_octets.result ≡ take m os = ap (λ i. octets i c.from_be_octets.result) (sym count) ∙ c.from_be_octets.ensures in
    field_read os f k (8 * m - (f + k)) m c.from_be_octets.result c.wide_field-2.result front (omega arith) c.wide_field-2.ensures
