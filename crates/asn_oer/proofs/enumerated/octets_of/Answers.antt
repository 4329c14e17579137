use Rattle.std.proofs.Common.{rules, ◌≡◌, ◌≤◌, ◌&&◌, ℤ, pos, false, sym, ◌∙◌, ap, arith, to_z, of_z}
use Rattle.std.specs.Int.RustNames.{int_le, int_lt}
use mir.Syntax.{w64, w128}
use Rattle.asn_bits.specs.Numbers.{signed_octets, signed_octet_count}
use Rattle.asn_bits.proofs.Octets.{signed_fits}
use Rattle.asn_oer.proofs.Read.ItemReading.{few_octets, in_front, long_number}
use Rattle.asn_oer.proofs.enumerated.octets_of.Goals as goal

pub overflow_shl-first : goal.overflow_shl-first
overflow_shl-first c =
    let same : to_z w128 (of_z w128 c.from-number.result) ≡ c.args.number = search rules in
    omega (arith, c.signed_octet_count-count.ensures.count, ap signed_octet_count same, few_octets c.args.number c.requires.narrow)

pub signed_residue-requires-clause-room : goal.signed_residue-requires-clause-room
signed_residue-requires-clause-room c = (let z = to_z w128 (of_z w128 c.from-number.result) in rw c.signed_octet_count-count.ensures.count (signed_fits z))

pub overflow_add-result-2 : goal.overflow_add-result-2
overflow_add-result-2 c =
    let same : to_z w128 (of_z w128 c.from-number.result) ≡ c.args.number = search rules in
    let k = c.signed_octet_count-count.result in
    let few : k ≤ 4 = omega (arith, c.signed_octet_count-count.ensures.count, ap signed_octet_count same, few_octets c.args.number c.requires.narrow) in
    let w = in_front k c.signed_residue.result few c.signed_residue.ensures.fits in
    rw c.from.ensures (omega (arith, w.0, w.1, w.2))

pub returns-clause-few : goal.returns-clause-few
returns-clause-few c =
    let same : to_z w128 (of_z w128 c.from-number.result) ≡ c.args.number = search rules in
    omega (arith, c.signed_octet_count-count.ensures.count, ap signed_octet_count same, few_octets c.args.number c.requires.narrow)

pub returns-clause-fits : goal.returns-clause-fits
returns-clause-fits c =
    let same : to_z w128 (of_z w128 c.from-number.result) ≡ c.args.number = search rules in
    let k = c.signed_octet_count-count.result in
    let few : k ≤ 4 = omega (arith, c.signed_octet_count-count.ensures.count, ap signed_octet_count same, few_octets c.args.number c.requires.narrow) in
    let w = in_front k c.signed_residue.result few c.signed_residue.ensures.fits in
    rw c.from.ensures (omega (arith, w.0, w.1))

pub returns-clause-same : goal.returns-clause-same
returns-clause-same c =
    let z = c.args.number in
    let k = c.signed_octet_count-count.result in
    let r = c.signed_residue.result in
    let same : to_z w128 (of_z w128 c.from-number.result) ≡ z = search rules in
    let kept : to_z w64 (of_z w64 z) ≡ z = search rules in
    let few : k ≤ 4 = omega (arith, c.signed_octet_count-count.ensures.count, ap signed_octet_count same, few_octets z c.requires.narrow) in
    let large : (int_le (pos 0) z && int_lt z (pos 128)) ≡ false = ap (λ (x : ℤ). int_le (pos 0) x && int_lt x (pos 128)) (sym kept) ∙ sym c.is_small.ensures ∙ c.if-is_small.false in
    rw c.from.ensures (long_number z k r large (c.signed_octet_count-count.ensures.count ∙ ap signed_octet_count same) (ap (λ (x : ℤ). signed_octets k x) (sym same) ∙ c.signed_residue.ensures.octets) few c.signed_residue.ensures.fits)
