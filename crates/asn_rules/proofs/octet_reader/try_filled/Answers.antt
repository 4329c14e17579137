-- The bits of the octet are those of both numbers, and zeros.
use Rattle.std.proofs.Common.{◌≡◌, ◌≤◌, ◌+◌, ◌-◌, ◌/◌, ◌%◌, ◌^◌, bit_and, ap, sym, ◌∙◌, arith}
use Rattle.std.proofs.lemmas.Nat.{and_mask}
use Rattle.asn_rules.proofs.Octets.FilledOctet.{octet_filled}
use Rattle.asn_rules.proofs.octet_reader.try_filled.Goals as goal

pub returns-then-low-number-clause-done : goal.returns-then-low-number-clause-done
returns-then-low-number-clause-done c =
    let a = c.args in
    let o = c.in_ok-octet.octet in
    let z = 8 - (a.marks + a.count) in
    let both = o / 2 ^ z in
    let mask : c.greatest_of_width.result ≡ 2 ^ a.count - 1 = omega (arith, c.greatest_of_width.ensures) in
    let number : bit_and both c.greatest_of_width.result ≡ both % 2 ^ a.count = ap (bit_and both) mask ∙ and_mask both a.count in
    let below : c.greatest_of_width-2.result ≡ 2 ^ z - 1 = omega (arith, c.greatest_of_width-2.ensures) in
    let zeros : o % 2 ^ z ≡ 0 = sym (ap (bit_and o) below ∙ and_mask o z) ∙ c.if-octet-greatest_of_width-eq0.true in
    let least : a.low ≤ both % 2 ^ a.count = omega (arith, number, c.if-low-number.true) in
    rw number (octet_filled a.marks a.most a.count a.low o a.units.now c.pass_octets.new.self (omega (arith, c.if-width-eq0.false)) (omega (arith, c.if-width-gt8.false)) c.in_ok-octet.ensures.fits zeros (omega (arith, c.if-mark-most.true)) least (rw c.pass_octets.ensures c.in_ok-octet.ensures.some))
