-- The octet of the count and those after it hold the integer, and fewer do not.
use Rattle.std.proofs.Common.{◌≡◌, ◌+◌, ◌-◌, ◌*◌, ◌/◌, ◌%◌, ◌^◌, ℕ, pos, ◌+ℤ◌, bit_and, ap, sym, ◌∙◌, subst, arith}
use Rattle.std.proofs.Math.Nat.{mod-lt, one-le-pow}
use Rattle.std.proofs.lemmas.Int.{ints}
use Rattle.std.proofs.lemmas.Nat.{and_mask}
use Rattle.asn_values.specs.Fits.{lowest_integer}
use Rattle.asn_bits.specs.Numbers.{signed_octet_count}
use Rattle.asn_bits.proofs.Above.{kept}
use Rattle.asn_bits.proofs.Splits.{two_pow_octets}
use Rattle.asn_rules.specs.OffsetSets.{HasOffset}
use Rattle.asn_rules.proofs.Octets.FirstOctets.{octets_there}
use Rattle.asn_rules.proofs.Plain.SignedReading.{unconstrained_spells}
use Rattle.asn_rules.proofs.signed_reader.try_unconstrained.Goals as goal

pub offset_of-offset-requires-clause-fits : goal.offset_of-offset-requires-clause-fits
offset_of-offset-requires-clause-fits c =
    let k = c.in_ok-first.first in
    let all = c.in_ok-all.all in
    let mask : c.greatest_of_width.result ≡ 2 ^ (8 * k) - 1 = omega (arith, c.greatest_of_width.ensures) in
    let low : bit_and all c.greatest_of_width.result ≡ all % 2 ^ (8 * k) = ap (bit_and all) mask ∙ and_mask all (8 * k) in
    omega (arith, low, mod-lt all (one-le-pow (8 * k) 2 (omega arith)), two_pow_octets k)

pub pass_octets-requires : goal.pass_octets-requires
pass_octets-requires c = octets_there (1 + c.in_ok-first.first) c.in_ok-all.all c.args.bits.now c.in_ok-all.ensures.some

pub returns-then-has_offset-clause-done : goal.returns-then-has_offset-clause-done
returns-then-has_offset-clause-done c R =
    let k = c.in_ok-first.first in
    let all = c.in_ok-all.all in
    let w = c.offset_of-offset.result in
    let mask : c.greatest_of_width.result ≡ 2 ^ (8 * k) - 1 = omega (arith, c.greatest_of_width.ensures) in
    let low : bit_and all c.greatest_of_width.result ≡ all % 2 ^ (8 * k) = ap (bit_and all) mask ∙ and_mask all (8 * k) in
    let first : all / 2 ^ (8 * k) ≡ k = c.if-same.true in
    let z : c.at_offset.result ≡ lowest_integer +ℤ pos w = c.at_offset.ensures in
    let same = kept c.at_offset.result (omega (arith, ints, z)) (omega (arith, ints, z)) in
    let fewest : c.signed_octet_count-fewest.result ≡ signed_octet_count c.at_offset.result = rw same at c.signed_octet_count-fewest.ensures.count in
    let count : signed_octet_count (lowest_integer +ℤ pos w) ≡ k = ap signed_octet_count (sym z) ∙ sym fewest ∙ c.if-fewest-count.true in
    let has : HasOffset c.args.set w = subst (λ (i : ℕ). HasOffset c.args.set i) c.from.ensures (c.has_offset.ensures c.if-has_offset.true) in
    unconstrained_spells R c.args.set k (bit_and all c.greatest_of_width.result) w all c.args.bits.now c.pass_octets.new.self (omega arith) first low (omega arith) c.offset_of-offset.ensures has count (rw c.pass_octets.ensures c.in_ok-all.ensures.some)
