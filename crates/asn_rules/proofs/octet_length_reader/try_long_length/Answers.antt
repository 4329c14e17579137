-- The first octet tells the count of those after it, which hold the length, and fewer do not.
use Rattle.std.proofs.Common.{◌≡◌, ◌+◌, ◌-◌, ◌*◌, ◌/◌, ◌%◌, ◌^◌, bit_and, ap, sym, ◌∙◌, arith}
use Rattle.std.proofs.lemmas.Nat.{and_mask}
use Rattle.asn_bits.specs.Numbers.{octet_count}
use Rattle.asn_rules.proofs.Octets.LengthOctets.{long_done, long_whole}
use Rattle.asn_rules.proofs.Octets.FirstOctets.{octets_there}
use Rattle.asn_rules.proofs.octet_length_reader.try_long_length.Goals as goal

pub pass_octets-requires : goal.pass_octets-requires
pass_octets-requires c = octets_there (1 + (c.in_ok-first.first - 128)) c.in_ok-all.all c.args.units.now c.in_ok-all.ensures.some

pub returns-then-n-high-clause-at_octet : goal.returns-then-n-high-clause-at_octet
returns-then-n-high-clause-at_octet c =
    long_whole (1 + (c.in_ok-first.first - 128)) c.in_ok-all.all c.args.units.now c.pass_octets.new.self c.requires.at_octet (rw c.pass_octets.ensures c.in_ok-all.ensures.some)

pub returns-then-n-high-clause-done : goal.returns-then-n-high-clause-done
returns-then-n-high-clause-done c =
    let k = c.in_ok-first.first - 128 in
    let all = c.in_ok-all.all in
    let n = bit_and all c.greatest_of_width.result in
    let mask : c.greatest_of_width.result ≡ 2 ^ (8 * k) - 1 = omega (arith, c.greatest_of_width.ensures) in
    let low : n ≡ all % 2 ^ (8 * k) = ap (bit_and all) mask ∙ and_mask all (8 * k) in
    let first : all / 2 ^ (8 * k) ≡ 128 + k = omega (arith, c.if-same.true, c.if-first-le128.false) in
    let count : octet_count n ≡ k = sym c.octet_count.ensures.count ∙ c.if-octet_count-count.true in
    long_done c.args.low c.args.high c.requires.narrow k n all c.args.units.now c.pass_octets.new.self (omega (arith, c.if-first-gt132.false)) first low c.if-n-ge128.true count (omega (arith, c.if-low-n.true), omega (arith, c.if-n-high.true)) (rw c.pass_octets.ensures c.in_ok-all.ensures.some)
